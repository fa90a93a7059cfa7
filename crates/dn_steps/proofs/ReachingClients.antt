-- What comes of a message to an honest client keeps the tie.
use Rattle.std.proofs.Common.{◌≡◌, ◌≢◌, ℕ, List, [], ◌∷◌, refl, sym, ap, subst, ◌∙◌, inl, inr, false, Bool, cond}
use Rattle.std.specs.Prelude.{Contains, Option, Some, None, slice_set}
use Rattle.std.proofs.lemmas.Bool.{cases_Bool}
use Rattle.std.proofs.lemmas.Option.{same_Some}
use Rattle.std.proofs.lemmas.List.Elements.{Contains-append_cases}
use Rattle.dn_wire.specs.declared.ids.ClientId.{ClientId}
use Rattle.dn_wire.specs.declared.ids.ServerId.{ServerId}
use Rattle.dn_wire.specs.declared.ids.Round.{Round}
use Rattle.dn_wire.specs.declared.ids.Member.TheVariants as members
use Rattle.dn_record_types.specs.declared.statement.Statement.{Statement}
use Rattle.dn_cert.specs.Certificate.{CertificateView}
use Rattle.dn_cert.specs.declared.opened.Opened.{Opened}
use Rattle.dn_cert.specs.declared.opened.Opened.TheVariants as opened
use Rattle.dn_cert.proofs.Orders.{nothing}
use Rattle.dn_client.specs.declared.holding.HoldFault.{HoldFault}
use Rattle.dn_client.specs.declared.holding.HoldFault.TheVariants as hold_faults
use Rattle.dn_client.specs.declared.answering.AnswerFault.{AnswerFault}
use Rattle.dn_client.specs.declared.answering.AnswerFault.TheVariants as answer_faults
use Rattle.dn_client.specs.Client.{ClientView, IsClient}
use Rattle.dn_report.specs.declared.outcome.Outcome.{Outcome}
use Rattle.dn_report.specs.declared.outcome.Outcome.TheVariants as outcomes
use Rattle.dn_report.specs.declared.words.IgnoredWord.{IgnoredWord}
use Rattle.dn_report.specs.declared.words.IgnoredWord.TheVariants as ignored
use Rattle.dn_flight.specs.declared.msg.Msg.{Msg}
use Rattle.dn_flight.specs.Flight.{with_id}
use Rattle.dn_state.specs.declared.delivering.Reached.{Reached}
use Rattle.dn_state.specs.declared.delivering.Reached.TheVariants as came
use Rattle.dn_state.specs.Parts.{PartsView}
use Rattle.dn_state.specs.Words.{hold_word_of, answer_word_of}
use Rattle.dn_state.specs.Doing.{Tells, Then}
use Rattle.dn_state.specs.Members.{client_at, with_client}
use Rattle.dn_state.specs.Telling.{with_told}
use Rattle.dn_state.specs.Calling.{IsIgnored}
use Rattle.dn_state.specs.Delivering.{opened_at, body_of, is_receipt_for, without_message, Holds, IsReached, ComesOfReached, TellsBody, ReachesClient}
use Rattle.dn_state.specs.Delivering.ReachesClient.{is_left, reaches, passes}
use Rattle.dn_headline.specs.Group.{IsHonestServer}
use Rattle.dn_headline.specs.Log.{message_of, is_early_or_none}
use Rattle.dn_headline.specs.Run.{RunView, log}
use Rattle.dn_headline.specs.Invariant.{Carries}
use Rattle.dn_links.specs.ClientLink.ClientCall.{rests, holds}
use Rattle.dn_steps.specs.Fitting.{FitsLog}
use Rattle.dn_steps.specs.Tied.{IsTied}
use Rattle.dn_steps.proofs.Removing.{with_delivered}
use Rattle.dn_steps.proofs.Members.{client_is_honest, client_core_is}
use Rattle.dn_steps.proofs.Runs.{next_run}
use Rattle.dn_steps.proofs.Resting.{without_keeps_members}
use Rattle.dn_steps.proofs.Saying.{client_fits_too}
use Rattle.dn_steps.proofs.Taking.{IsPlain, one_plain, delivering, number, receiver, taken_is_tied}
use Rattle.dn_steps.proofs.RoundLines.{told_plain, told_keeps, told_fits}
use Rattle.dn_steps.proofs.ToClients.{gone_fits, client_taken, carried_certificate, client_rebuts}
use Rattle.dn_steps.proofs.OneClient.{SameServers}

-- ---- words

ignored_plain : (word : IgnoredWord) → is_early_or_none (outcomes.Ignored word) ≡ false → IsPlain (outcomes.Ignored word)
ignored_plain word taken = record { quiet = refl; unput = refl; taken = taken; blames = refl }

of_word : (word why : IgnoredWord) → Some word ≡ Some why → is_early_or_none (outcomes.Ignored word) ≡ false → IsPlain (outcomes.Ignored why)
of_word word why e taken = subst (λ (z : IgnoredWord). IsPlain (outcomes.Ignored z)) (same_Some word why e) (ignored_plain word taken)

hold_word : (fault : HoldFault) (why : IgnoredWord) → hold_word_of fault ≡ Some why → (fault ≢ hold_faults.NoMemory) × IsPlain (outcomes.Ignored why)
hold_word hold_faults.Left why e = ((λ h. absurd cc), of_word ignored.Left why e refl)
hold_word (hold_faults.Known r) why e = ((λ h. absurd cc), of_word ignored.Known why e refl)
hold_word (hold_faults.NoPrev prev) why e = ((λ h. absurd cc), of_word ignored.Prev why e refl)
hold_word (hold_faults.Floor count last) why e = ((λ h. absurd cc), of_word ignored.Floor why e refl)
hold_word (hold_faults.Length have need) why e = ((λ h. absurd cc), of_word ignored.Length why e refl)
hold_word hold_faults.NoMemory why e = absurd cc

answer_word : (fault : AnswerFault) (why : IgnoredWord) → answer_word_of fault ≡ Some why → (fault ≢ answer_faults.NoMemory) × IsPlain (outcomes.Ignored why)
answer_word answer_faults.Left why e = ((λ h. absurd cc), of_word ignored.Left why e refl)
answer_word (answer_faults.NoCert r) why e = ((λ h. absurd cc), of_word ignored.Cert why e refl)
answer_word (answer_faults.NotListed r) why e = ((λ h. absurd cc), of_word ignored.Cert why e refl)
answer_word answer_faults.Shape why e = ((λ h. absurd cc), of_word ignored.Key why e refl)
answer_word answer_faults.Answered why e = ((λ h. absurd cc), of_word ignored.Repeat why e refl)
answer_word answer_faults.NotChallenged why e = ((λ h. absurd cc), of_word ignored.Calm why e refl)
answer_word answer_faults.AllTrue why e = ((λ h. absurd cc), of_word ignored.Truth why e refl)
answer_word answer_faults.Spent why e = ((λ h. absurd cc), of_word ignored.Spent why e refl)
answer_word answer_faults.NoMemory why e = absurd cc

-- ---- what is told of the client

-- the parts with this core of the client's, and else as they were
record HasCore (w : RunView) (old : PartsView) (id : ℕ) (i : ClientId) (d : ClientView) (new : PartsView) : Type 0 where
  clients : new.clients ≡ slice_set old.clients i.0 (Some d)
  rest : SameServers old new
  fits : FitsLog w.group (with_delivered (log w) id) new

module _ (w : RunView) (old : PartsView) (id : ℕ) (m : Msg) (tied : IsTied w old) (found : with_id id old.flight.msgs ≡ Some m) (i : ClientId) (to : m.to ≡ members.Client i) where
  abbrev gone : PartsView
  gone = without_message old id

  abbrev run_after : List Outcome → RunView
  run_after lines = next_run w (delivering id lines) w.plains w.sums

  core_there : (d : ClientView) → HasCore w old id i d (with_client gone i d)
  core_there d = record {
    clients = refl;
    rest = record { roster = refl; opens = refl; group = refl; servers = refl; left = refl };
    fits = client_fits_too w.group (with_delivered (log w) id) gone i d (gone_fits w old id m tied found i to);
  }

  told_there : (d : ClientView) (r : ℕ) (parts : PartsView) → HasCore w old id i d parts → HasCore w old id i d (with_told r parts)
  told_there d r parts h = record {
    clients = h.clients;
    rest = record { roster = h.rest.roster; opens = h.rest.opens; group = h.rest.group; servers = h.rest.servers; left = h.rest.left };
    fits = told_fits w.group (with_delivered (log w) id) parts r h.fits;
  }

  not_server : (j : ServerId) → members.Client i ≡ members.Server j → ⊥
  not_server j e = absurd cc

  no_server_hears : (x j : ServerId) (r : Round) (t : Statement) → IsHonestServer w.group j → Carries w x j t (message_of (log w) id) → ⊥
  no_server_hears x j r t honest carries = not_server j (sym (receiver w old id m tied found ∙ to) ∙ carries.to)

  module _ (c : ClientView) (at_c : client_at old i ≡ Some c) where
    is_client : IsClient c
    is_client = subst IsClient (client_core_is old i c at_c) (tied.clients i (client_is_honest w old tied i c at_c)).client

    -- the core stays, and a line is told
    line_told : (line : Outcome) → IsPlain line → (d : ClientView) → d ≡ c → (new : PartsView) (lines : List Outcome) → Tells line (with_client gone i d) new lines
        → IsTied (run_after lines) new
    line_told line plain d same new lines tells =
        let has = subst (HasCore w old id i c) (ap (with_client gone i) (sym same) ∙ sym tells.0) (core_there c) in
        subst (λ (os : List Outcome). IsTied (run_after os) new) (sym tells.1)
        (client_taken w old id m tied found i to (line ∷ []) (one_plain line plain) c c at_c new has.clients has.rest has.fits
        (rests (record { who = refl; chain = refl; made = refl; signed = refl; signed_as_slot = refl; bent = refl })) refl is_client)

    ignored_told : (word : Option IgnoredWord) (d : ClientView) (new : PartsView) (lines : List Outcome)
        → ((why : IgnoredWord) → word ≡ Some why → (d ≡ c) × IsPlain (outcomes.Ignored why)) → IsIgnored word (with_client gone i d) new lines → IsTied (run_after lines) new
    ignored_told word d new lines means h = let so = means h.why h.is in line_told (outcomes.Ignored h.why) so.1 d so.0 new lines h.tells

    kind_told : (d : ClientView) → d ≡ c → (new : PartsView) (lines : List Outcome) → IsIgnored (Some ignored.Kind) (with_client gone i d) new lines → IsTied (run_after lines) new
    kind_told d same new lines h = ignored_told (Some ignored.Kind) d new lines (λ why e. (same, of_word ignored.Kind why e refl)) h

    held_so : (certificate : CertificateView) (reached : Reached) (d : ClientView) (new : PartsView) (lines : List Outcome) → opened_at gone m.payload ≡ Some (opened.Certificate certificate)
        → Holds certificate c reached d → ComesOfReached i (Some certificate.body) reached (with_client gone i d) new lines → IsTied (run_after lines) new
    held_so certificate reached d new lines carries h comes =
        let held = outcomes.Held (members.Client i) certificate.body.r in
        let does : Then (Tells held) (TellsBody (Some certificate.body)) (with_client gone i d) new lines =
        subst (λ (z : Reached). ComesOfReached i (Some certificate.body) z (with_client gone i d) new lines) h.is comes in
        let plain : (o : Outcome) → Contains lines o → IsPlain o =
        λ o there. elim (Contains-append_cases does.lines_first does.lines_rest o (subst (λ (os : List Outcome). Contains os o) does.told there)) [
          | inl first ↦ one_plain held (record { quiet = refl; unput = refl; taken = refl; blames = refl }) o (subst (λ (os : List Outcome). Contains os o) does.begins.1 first)
          | inr rest ↦ told_plain does.between certificate.body new does.lines_rest does.goes_on o rest
        ] in
        let between = subst (HasCore w old id i d) (sym does.begins.0) (core_there d) in
        let has = told_keeps (HasCore w old id i d) does.between certificate.body new does.lines_rest does.goes_on between
        (told_there d certificate.body.r.0 does.between between) in
        client_taken w old id m tied found i to lines plain c d at_c new has.clients has.rest has.fits
        (holds certificate h.held (carried_certificate w old id m tied found i to lines plain certificate carries)) (ap (λ (z : ClientView). z.queue) h.held.kept) h.client

    core_reached : (x : Opened) (reached : Reached) (d : ClientView) (new : PartsView) (lines : List Outcome) → opened_at gone m.payload ≡ Some x
        → IsReached i x c reached d → ComesOfReached i (body_of x) reached (with_client gone i d) new lines → IsTied (run_after lines) new
    core_reached (opened.Submission cipher said) reached d new lines carries is comes =
        kind_told d is.1 new lines (subst (λ (z : Reached). ComesOfReached i None z (with_client gone i d) new lines) is.0 comes)
    core_reached (opened.Plain said) reached d new lines carries is comes =
        elim (cases_Bool (is_receipt_for i said.statement)) [
          | inl receipt ↦
              line_told outcomes.Noted (record { quiet = refl; unput = refl; taken = refl; blames = refl }) d is.1 new lines
              (subst (λ (z : Reached). ComesOfReached i None z (with_client gone i d) new lines)
              (is.0 ∙ ap (λ (t : Bool). cond t came.Noted (came.Ignored (Some ignored.Kind))) receipt) comes)
          | inr other ↦
              kind_told d is.1 new lines
              (subst (λ (z : Reached). ComesOfReached i None z (with_client gone i d) new lines)
              (is.0 ∙ ap (λ (t : Bool). cond t came.Noted (came.Ignored (Some ignored.Kind))) other) comes)
        ]
    core_reached (opened.Certificate certificate) reached d new lines carries is comes =
        elim is [
          | inl held ↦ held_so certificate reached d new lines carries held comes
          | inr refused ↦
              ignored_told (hold_word_of refused.fault) d new lines (λ why e. let so = hold_word refused.fault why e in (refused.same so.0, so.1))
              (subst (λ (z : Reached). ComesOfReached i (Some certificate.body) z (with_client gone i d) new lines) refused.is comes)
        ]
    core_reached (opened.Challenge challenge) reached d new lines carries is comes =
        elim is [
          | inl rebuts ↦
              client_rebuts w old id m tied found i to c d challenge rebuts.envelope.items new lines at_c carries rebuts.rebutted rebuts.client
              (subst (λ (z : Reached). ComesOfReached i None z (with_client gone i d) new lines) rebuts.is comes)
          | inr refused ↦
              ignored_told (answer_word_of refused.fault) d new lines (λ why e. let so = answer_word refused.fault why e in (refused.same so.0, so.1))
              (subst (λ (z : Reached). ComesOfReached i None z (with_client gone i d) new lines) refused.is comes)
        ]

  client_reached : (new : PartsView) (lines : List Outcome) → ReachesClient i m.payload gone new lines → IsTied (run_after lines) new
  client_reached new lines (is_left left tells) =
      subst (λ (os : List Outcome). IsTied (run_after os) new) (sym tells.1) (subst (IsTied (run_after (outcomes.Ignored ignored.Left ∷ []))) (sym tells.0)
      (taken_is_tied w old id m tied found (outcomes.Ignored ignored.Left ∷ []) (one_plain (outcomes.Ignored ignored.Left) (ignored_plain ignored.Left refl)) gone
      (without_keeps_members old id) (gone_fits w old id m tied found i to) no_server_hears))
  client_reached new lines (reaches x c stays carries at_c core) = core_reached c at_c x core.reached core.after new lines carries core.is core.comes
  client_reached new lines (passes stays none becomes) =
      subst (λ (os : List Outcome). IsTied (run_after os) new) (sym becomes.1) (subst (IsTied (run_after [])) (sym becomes.0)
      (taken_is_tied w old id m tied found [] (λ o there. absurd (nothing o there)) gone (without_keeps_members old id) (gone_fits w old id m tied found i to) no_server_hears))

  pub client_reached_is_tied : (new : PartsView) (lines : List Outcome) → ReachesClient i m.payload (without_message old m.id) new lines → IsTied (run_after lines) new
  client_reached_is_tied new lines h =
      client_reached new lines (subst (λ (n : ℕ). ReachesClient i m.payload (without_message old n) new lines) (number w old id m tied found) h)
