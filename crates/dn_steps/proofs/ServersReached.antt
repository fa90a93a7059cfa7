-- A message reaches a server: what comes of it goes on in the run.
use Rattle.std.proofs.Common.{◌≡◌, ℕ, List, [], refl, sym, ap, subst, ◌∙◌, inl, inr}
use Rattle.std.specs.Prelude.{Contains, ◌⊎◌, Option, Some, None, option_map}
use Rattle.std.specs.Option.{option_and_then}
use Rattle.dn_wire.specs.declared.ids.ServerId.{ServerId}
use Rattle.dn_wire.specs.declared.ids.Round.{Round}
use Rattle.dn_wire.specs.declared.ids.Member.TheVariants as members
use Rattle.dn_record_types.specs.declared.statement.Statement.{Statement}
use Rattle.dn_seal.specs.Said.{SaidView}
use Rattle.dn_cert.proofs.Orders.{nothing}
use Rattle.dn_cert.specs.declared.opened.Opened.{Opened}
use Rattle.dn_cert.specs.declared.opened.Opened.TheVariants as opened
use Rattle.dn_server.specs.declared.act.Act.{Act}
use Rattle.dn_server.specs.declared.answer.Answer.{Answer}
use Rattle.dn_server.specs.declared.answer.Answer.TheVariants as answers
use Rattle.dn_server.specs.declared.answer.Reason.TheVariants as reasons
use Rattle.dn_server.specs.Server.{ServerView}
use Rattle.dn_exchange.specs.Disciplined.{Disciplined}
use Rattle.dn_exchange.specs.Listening.{Hears}
use Rattle.dn_exchange.specs.Listening.Hears.{not_by_server, of_round, of_evidence}
use Rattle.dn_exchange.specs.Spoiling.{OwnBodiesAreDue, TellsDueBodies}
use Rattle.dn_payloads.specs.Payloads.{PayloadView}
use Rattle.dn_payloads.specs.declared.content.Content.{Content}
use Rattle.dn_payloads.specs.declared.content.Content.TheVariants as contents
use Rattle.dn_report.specs.declared.event.Event.TheVariants as events
use Rattle.dn_report.specs.declared.outcome.Outcome.{Outcome}
use Rattle.dn_flight.specs.declared.msg.Msg.{Msg}
use Rattle.dn_flight.specs.Flight.{with_id}
use Rattle.dn_state.specs.Parts.{PartsView}
use Rattle.dn_state.specs.Words.{unopened_word_of}
use Rattle.dn_state.specs.Members.{server_at}
use Rattle.dn_state.specs.Calling.{KeepsRules}
use Rattle.dn_state.specs.Delivering.{content_of, opened_in, opened_at, unopened_at, without_message, ReachesCore, ReachesServer}
use Rattle.dn_state.specs.Delivering.ReachesServer.{reaches, passes}
use Rattle.dn_headline.specs.Group.{IsHonestServer}
use Rattle.dn_headline.specs.Log.{message_of}
use Rattle.dn_headline.specs.Run.{RunView, log}
use Rattle.dn_headline.specs.Invariant.{Carries}
use Rattle.dn_steps.specs.Tied.{IsTied, IsServerTied}
use Rattle.dn_steps.specs.Cores.{server_of}
use Rattle.dn_steps.proofs.Members.{honest_server_has}
use Rattle.dn_steps.proofs.Removing.{delivered_fits}
use Rattle.dn_steps.proofs.Resting.{without_keeps_members}
use Rattle.dn_steps.proofs.Runs.{next_run}
use Rattle.dn_steps.proofs.Unputting.{none_unput}
use Rattle.dn_steps.proofs.Taking.{delivering, number, receiver, payload, taken_is_tied}
use Rattle.dn_steps.proofs.ReachingServers.{IsUnsaid, server_reached_is_tied}
use Rattle.dn_steps.proofs.ServerFronts.{unsaid_fronts}
use Rattle.dn_steps.proofs.ServedEvents.{RunGoesOn}
use Rattle.dn_steps.proofs.ClosingEvents.{core_tied}
use Rattle.dn_steps.proofs.GoingOn.{goes_on, goes_unput}
use Rattle.dn_steps.proofs.Answering.{AnswersSo, replied_goes_on, submission_answers}
use Rattle.dn_steps.proofs.Answering.AnswersSo.{ignores}
use Rattle.dn_steps.proofs.AnsweringRounds.{takes_no_server, round_answers}
use Rattle.dn_steps.proofs.AnsweringOpenings.{evidence_answers}

-- what is there and has no word for why it doesn't open opens
opens_or_word : (content : Content) → unopened_word_of content ≡ None → (x : Opened) × (opened_in (Some content) ≡ Some x)
opens_or_word (contents.Opened x) e = (x, refl)
opens_or_word contents.Form e = absurd cc
opens_or_word contents.Stranger e = absurd cc
opens_or_word contents.Signature e = absurd cc

module _ (w : RunView) (old : PartsView) (id : ℕ) (m : Msg) (tied : IsTied w old) (found : with_id id old.flight.msgs ≡ Some m) (j : ServerId) (to : m.to ≡ members.Server j) where
  -- ---- by what the payload carries

  hears_so : (c : ServerView) (at_c : server_at old j ≡ Some c) (said : SaidView) → opened_at old m.payload ≡ Some (opened.Plain said) → (answer : Answer) (d : ServerView)
      → KeepsRules c d → Disciplined d → ((did : List Act) → answer ≡ answers.Acts did → OwnBodiesAreDue d did) → Hears c said answer d
      → AnswersSo w old id m tied found j to c at_c answer d
  hears_so c at_c said carries answer d rules disciplined due (not_by_server r round none is same) =
      ignores reasons.Kind is same (takes_no_server w old id m tied found j to c at_c said carries c none)
  hears_so c at_c said carries answer d rules disciplined due (of_round k r by_k round h) =
      round_answers w old id m tied found j to c at_c said carries k r by_k round answer d h disciplined due
  hears_so c at_c said carries answer d rules disciplined due (of_evidence none h) =
      evidence_answers w old id m tied found j to c at_c said carries none answer d rules.seat disciplined h

  core_goes_on : (c : ServerView) (at_c : server_at old j ≡ Some c) (x : Opened) → opened_at old m.payload ≡ Some x → (new : PartsView) (lines : List Outcome)
      → ReachesCore m j x c old new lines → RunGoesOn w (events.Deliver id) lines new
  core_goes_on c at_c (opened.Certificate certificate) carries new lines core =
      goes_on w (events.Deliver id) lines w.plains new (unsaid_fronts w old id m j (opened.Certificate certificate) c tt new lines core)
      (server_reached_is_tied w old id m tied found j to c at_c (opened.Certificate certificate) carries tt new lines (reaches (opened.Certificate certificate) c carries at_c core))
  core_goes_on c at_c (opened.Challenge challenge) carries new lines core =
      goes_on w (events.Deliver id) lines w.plains new (unsaid_fronts w old id m j (opened.Challenge challenge) c tt new lines core)
      (server_reached_is_tied w old id m tied found j to c at_c (opened.Challenge challenge) carries tt new lines (reaches (opened.Challenge challenge) c carries at_c core))
  core_goes_on c at_c (opened.Submission cipher said) carries new lines core =
      let r = core.replies in
      let disciplined = r.rules.disciplined (r.rules.bent ∙ (core_tied w old tied j c at_c).straight) in
      replied_goes_on w old id m tied found j to c at_c r.after core.answer core.last core.replied new r.auditor lines
      (submission_answers w old id m tied found j to c at_c cipher said carries core.answer r.after r.answered disciplined) r.rules r.opened_last r.noted r.kept core.comes
  core_goes_on c at_c (opened.Plain said) carries new lines core =
      let r = core.replies in
      let straight = r.rules.bent ∙ (core_tied w old tied j c at_c).straight in
      replied_goes_on w old id m tied found j to c at_c r.after core.answer core.last core.replied new r.auditor lines
      (hears_so c at_c said carries core.answer r.after r.rules (r.rules.disciplined straight)
      (λ did is. subst (TellsDueBodies r.after) is (r.answered.1 straight)) r.answered.0) r.rules r.opened_last r.noted r.kept core.comes

  -- ---- no core is there

  it_opens : unopened_at old m.payload ≡ None → (x : Opened) × (opened_at old m.payload ≡ Some x)
  it_opens opens =
      let p = payload w old id m tied found in
      let at : content_of old.payloads m.payload ≡ Some p.0.content = ap (option_map (λ (y : PayloadView). y.content)) p.1 in
      let x = opens_or_word p.0.content (ap (option_and_then unopened_word_of) (sym at) ∙ opens) in
      (x.0, ap opened_in at ∙ x.1)

  not_both : {A : Type 0} (o : Option A) (x : A) → o ≡ None → o ≡ Some x → ⊥
  not_both None x none some = absurd cc
  not_both (Some y) x none some = absurd cc

  same_server : (k : ServerId) → members.Server j ≡ members.Server k → j ≡ k
  same_server k e = cc

  pub server_reached_goes_on : unopened_at old m.payload ≡ None → (new : PartsView) (lines : List Outcome) → ReachesServer m j old new lines → RunGoesOn w (events.Deliver id) lines new
  server_reached_goes_on opens new lines (reaches x c carries at_c core) = core_goes_on c at_c x carries new lines core
  server_reached_goes_on opens new lines (passes why becomes) =
      goes_unput w (events.Deliver id) lines new (none_unput lines becomes.1)
      (subst (λ (xs : List Outcome). IsTied (next_run w (delivering id xs) w.plains w.sums) new) (sym becomes.1)
      (subst (IsTied (next_run w (delivering id []) w.plains w.sums)) (sym (becomes.0 ∙ ap (without_message old) (number w old id m tied found)))
      (taken_is_tied w old id m tied found [] (λ o h. absurd (nothing o h)) (without_message old id) (without_keeps_members old id)
      (delivered_fits w.group (log w) old id tied.fits) (λ x k r t honest carries. unheard why k honest carries.to))))
    where
      unheard : (opened_at old m.payload ≡ None) ⊎ (server_at old j ≡ None) → (k : ServerId) → IsHonestServer w.group k → (message_of (log w) id).to ≡ members.Server k → ⊥
      unheard (inl none) k honest at = let x = it_opens opens in not_both (opened_at old m.payload) x.0 none x.1
      unheard (inr none) k honest at =
          let same : j ≡ k = same_server k (sym to ∙ sym (receiver w old id m tied found) ∙ at) in
          not_both (server_at old k) (server_of old k) (subst (λ (z : ServerId). server_at old z ≡ None) same none) (honest_server_has w old tied k honest)
