-- What comes of an honest server's answer to a submission or a statement that reaches it.
use Rattle.std.proofs.Common.{◌≡◌, ◌≢◌, ℕ, ◌<◌, ◌≤◌, List, [], ◌∷◌, ◌++◌, refl, sym, ap, subst, ◌∙◌, inl, inr, Bool, true, false, arith}
use Rattle.std.specs.Prelude.{Contains, ◌⊎◌, Option, Some, None, slice_get, slice_set, option_map}
use Rattle.std.proofs.lemmas.Option.{same_Some, get_or_from_slice_get}
use Rattle.std.proofs.lemmas.List.{set-get_or}
use Rattle.dn_wire.specs.declared.ids.ServerId.{ServerId}
use Rattle.dn_wire.specs.declared.ids.Round.{Round}
use Rattle.dn_wire.specs.declared.ids.Member.TheVariants as members
use Rattle.dn_wire.specs.declared.ids.SignerId.{SignerId}
use Rattle.dn_wire.specs.declared.ids.SignerId.TheVariants.{Client, Server}
use Rattle.dn_record_types.specs.declared.payload.Payload.{Payload}
use Rattle.dn_record_types.specs.declared.payload.Payload.TheVariants as payloads
use Rattle.dn_record_types.specs.declared.statement.Statement.{Statement}
use Rattle.dn_record_types.specs.declared.statement.Statement.TheVariants as kinds
use Rattle.dn_record_types.proofs.RecordLaws.{payload_once}
use Rattle.dn_records.specs.Records.{payload_bytes, IsPayload, kind_byte}
use Rattle.dn_roster.specs.Roster.{RosterView}
use Rattle.dn_seal.specs.Dealt.{server}
use Rattle.dn_seal.specs.Said.{SaidView, IsSaid, IsUnder, Unseals}
use Rattle.dn_seal.proofs.SaidLemmas.{said_unseals, unsealed_once}
use Rattle.dn_cert.specs.Opening.{IsOpened}
use Rattle.dn_cert.specs.declared.opened.Opened.{Opened}
use Rattle.dn_cert.specs.declared.opened.Opened.TheVariants as opened
use Rattle.dn_server.specs.declared.act.Act.{Act}
use Rattle.dn_server.specs.declared.run.Run.{Run}
use Rattle.dn_server.specs.declared.answer.Answer.{Answer}
use Rattle.dn_server.specs.declared.answer.Answer.TheVariants as answers
use Rattle.dn_server.specs.declared.answer.Reason.{Reason}
use Rattle.dn_server.specs.declared.answer.Reason.TheVariants as reasons
use Rattle.dn_server.specs.Keeping.{round_of}
use Rattle.dn_server.specs.declared.act.Act.TheVariants as act
use Rattle.dn_told.specs.declared.told.WindowTold.TheVariants as told
use Rattle.dn_server.specs.Server.{ServerView, client_member, post_next, ended}
use Rattle.dn_openings.specs.Hearing.{HearsEvidence}
use Rattle.dn_exchange.specs.Disciplined.{Disciplined}
use Rattle.dn_exchange.specs.Hearing.{HearsRound}
use Rattle.dn_exchange.specs.Hearing.HearsRound.{is_early, is_past, is_idle, repeats as repeats_it, is_second, is_faulty, goes_on}
use Rattle.dn_exchange.specs.Listening.{Hears}
use Rattle.dn_exchange.specs.Listening.Hears.{not_by_server, of_round, of_evidence}
use Rattle.dn_exchange.specs.Spoiling.{OwnBodiesAreDue, TellsDueBodies}
use Rattle.dn_exchange.specs.Submitting.{Submitted, IsSubmitted, IsFitting, IsRefused, Submits as SubmitsIt, TakesSubmission, told_for, receipt_of}
use Rattle.dn_exchange.specs.Submitting.IsRefused.{is_early as early_one, is_past as past_one, is_others, on_other_prev, is_of_other_length, is_of_other_digest}
use Rattle.dn_exchange.specs.Submitting.Submits.{is_refused, repeats as repeats_one, finds_no_leaf, is_claimed}
use Rattle.dn_audit.specs.Auditor.{AuditorView}
use Rattle.dn_payloads.specs.declared.content.Content.TheVariants as contents
use Rattle.dn_payloads.specs.Payloads.{PayloadView, IsContent}
use Rattle.dn_report.specs.declared.event.Event.TheVariants as events
use Rattle.dn_report.specs.declared.outcome.Outcome.{Outcome}
use Rattle.dn_report.specs.declared.outcome.Outcome.TheVariants as outcomes
use Rattle.dn_flight.specs.declared.msg.Msg.{Msg}
use Rattle.dn_flight.specs.Flight.{with_id}
use Rattle.dn_state.specs.Parts.{PartsView}
use Rattle.dn_state.specs.Members.{server_at, with_server}
use Rattle.dn_state.specs.Calling.{KeepsRules, AreDue}
use Rattle.dn_state.specs.Delivering.{NotesReply, ComesOfMessage, ComesOfReply, content_of, opened_in, opened_at}
use Rattle.dn_state.specs.Delivering.ComesOfReply.{stays, takes}
use Rattle.dn_headline.specs.Log.{Put, message_of}
use Rattle.dn_headline.specs.Run.{RunView, log}
use Rattle.dn_headline.specs.Spoken.{Says, Submits, WasSaid, WasSubmitted, IsPayloadOf}
use Rattle.dn_headline.specs.Delivered.{IsPhaseOf}
use Rattle.dn_links.proofs.Linking.{kept_there}
use Rattle.dn_steps.specs.Tied.{IsTied, IsServerTied}
use Rattle.dn_steps.proofs.Idle.{clash}
use Rattle.dn_steps.proofs.Places.{one_at}
use Rattle.dn_steps.proofs.Members.{server_there, server_is_honest}
use Rattle.dn_steps.proofs.Putting.{plain_opens}
use Rattle.dn_steps.proofs.Removing.{with_delivered}
use Rattle.dn_steps.proofs.Taking.{payload}
use Rattle.dn_steps.proofs.ReachingServers.{content_is}
use Rattle.dn_steps.proofs.Closing.{CallInRound}
use Rattle.dn_steps.proofs.ServedEvents.{RunGoesOn}
use Rattle.dn_steps.proofs.ClosingEvents.{core_tied, rests_in_round}
use Rattle.dn_steps.proofs.Arriving.{early_goes_on, TakesIn, taken_so, taken_goes_on, comes_so, ignored_so}
use Rattle.dn_steps.proofs.HearingRounds.{goes_on_so, keeps_said, second_so, faulty_so}
use Rattle.dn_steps.proofs.Receiving.{claimed_so, repeated_so}

-- a statement that servers make to each other of a round
pub phase_round : (r : Round) (t : Statement) → IsPhaseOf r t → round_of t ≡ Some r
phase_round r (kinds.Inventory v) h = ap Some h
phase_round r (kinds.Commit q digest) h = ap Some h
phase_round r (kinds.Reveal q sum) h = ap Some h
phase_round r (kinds.Sign b) h = ap Some h
phase_round r _ h = absurd h

module _ (w : RunView) (old : PartsView) (id : ℕ) (m : Msg) (tied : IsTied w old) (found : with_id id old.flight.msgs ≡ Some m) (j : ServerId) (to : m.to ≡ members.Server j)
    (c : ServerView) (at_c : server_at old j ≡ Some c) where
  abbrev Takes : ServerView → Type 0
  Takes d = TakesIn w old id m tied found j to c at_c d

  -- what a core answers: that the message is early, or that it is ignored, and the core stays; or it acts in its round
  pub data AnswersSo (answer : Answer) (d : ServerView) : Type 0 where
    early : answer ≡ answers.Early → d ≡ c → AnswersSo answer d
    ignores : (reason : Reason) → answer ≡ answers.Ignored reason → d ≡ c → TakesIn w old id m tied found j to c at_c c → AnswersSo answer d
    acts : (did : List Act) → answer ≡ answers.Acts did → CallInRound w j c did d → TakesIn w old id m tied found j to c at_c d → AnswersSo answer d

  -- the parts with the core that there is
  same_parts : (d : ServerView) (auditor : AuditorView) → d ≡ c → auditor ≡ old.auditor → record (with_server old j d) { auditor = auditor } ≡ old
  same_parts d auditor same kept =
      let none : Option ServerView = None in
      let there = server_there old j c at_c in
      let is : slice_set old.servers j.0 (Some d) ≡ old.servers =
      ap (λ (o : Option ServerView). slice_set old.servers j.0 o) (ap Some same ∙ sym (get_or_from_slice_get old.servers j.0 (Some c) none there)) ∙ set-get_or old.servers j.0 none in
      λ t. record old { servers = is t; auditor = kept t }

  pub replied_goes_on : (d : ServerView) (answer : Answer) (last : Round) (replied new : PartsView) (auditor : AuditorView) (lines : List Outcome) → AnswersSo answer d → KeepsRules c d
      → last ≡ d.run.r → NotesReply answer j d old.auditor auditor → replied ≡ record (with_server old j d) { auditor = auditor }
      → ComesOfReply m j last answer None replied new lines → RunGoesOn w (events.Deliver id) lines new
  replied_goes_on d answer last replied new auditor lines (early is same) rules at noted kept (stays e tells) =
      let unnoted = subst (λ (a : Answer). NotesReply a j d old.auditor auditor) is noted in
      let new_is : new ≡ old = tells.0 ∙ kept ∙ same_parts d auditor same unnoted in
      subst (λ (xs : List Outcome). RunGoesOn w (events.Deliver id) xs new) (sym tells.1) (subst (RunGoesOn w (events.Deliver id) (outcomes.Early ∷ [])) (sym new_is) (early_goes_on w old id tied))
  replied_goes_on d answer last replied new auditor lines (early is same) rules at noted kept (takes other up) = absurd (other is)
  replied_goes_on d answer last replied new auditor lines (ignores reason is same taken) rules at noted kept (stays e tells) = let x = sym is ∙ e in absurd cc
  replied_goes_on d answer last replied new auditor lines (ignores reason is same taken) rules at noted kept (takes other up) =
      let has = taken_so w old id m tied found j to c at_c d replied up.heard auditor kept up.hears in
      let rest = subst (λ (z : ServerView). CallInRound w j c [] z) (sym same) (rests_in_round w j c) in
      taken_goes_on w old id m tied found j to c at_c d rules [] rest.fresh rest.does up.heard new has lines
      (ignored_so w.group j d.run.r reason answer (with_delivered (log w) id) up.heard new lines has.fits is (subst (λ (q : Round). ComesOfMessage j q answer None up.heard new lines) at up.comes))
      (subst (TakesIn w old id m tied found j to c at_c) (sym same) taken)
  replied_goes_on d answer last replied new auditor lines (acts did is call taken) rules at noted kept (stays e tells) = let x = sym is ∙ e in absurd cc
  replied_goes_on d answer last replied new auditor lines (acts did is call taken) rules at noted kept (takes other up) =
      let has = taken_so w old id m tied found j to c at_c d replied up.heard auditor kept up.hears in
      taken_goes_on w old id m tied found j to c at_c d rules did call.fresh call.does up.heard new has lines
      (comes_so w.group j d.run.r did answer (with_delivered (log w) id) up.heard new lines has.fits (has.rest.opens ∙ tied.group.opens) call.carried is
      (subst (λ (q : Round). ComesOfMessage j q answer None up.heard new lines) at up.comes)) taken

  -- ---- what the message carries

  module _ (x : Opened) (carries : opened_at old m.payload ≡ Some x) where
    content : (p : PayloadView) × Contains old.payloads.items p × IsContent w.group.roster p.bytes (contents.Opened x) × (p.bytes ≡ (message_of (log w) id).bytes)
    content =
        let p = payload w old id m tied found in
        let at : content_of old.payloads m.payload ≡ Some p.0.content = ap (option_map (λ (y : PayloadView). y.content)) p.1 in
        let is = content_is p.0.content x (ap opened_in (sym at) ∙ carries) in
        let inside = one_at old.payloads.items m.payload p.0 p.1 in
        (p.0, inside, subst (IsContent w.group.roster p.0.bytes) is (tied.fits.payloads.content p.0 inside), p.2)

    -- it was put
    pub put_before : (p : Put) × Contains (log w).puts p × (p.bytes ≡ (message_of (log w) id).bytes)
    put_before = let h = content in let put = tied.fits.payloads.put h.0 h.1 in (put.0, put.1, put.2 ∙ h.3)

    pub opens_so : IsContent w.group.roster (message_of (log w) id).bytes (contents.Opened x)
    opens_so = let h = content in subst (λ (b : List ℕ). IsContent w.group.roster b (contents.Opened x)) h.3 h.2

  abbrev bytes_here : List ℕ
  bytes_here = (message_of (log w) id).bytes

  not_plain : (cipher : List Bool) (e x : List ℕ) → payloads.Plain x ≡ payloads.Submission cipher e → ⊥
  not_plain cipher e x eq = absurd cc

  -- ---- a submission

  -- in a payload of a submission no server says anything
  submission_opens : (cipher : List Bool) (said : SaidView) (p : Payload) → IsPayload p → bytes_here ≡ payload_bytes p → IsOpened w.group.roster p (opened.Submission cipher said)
      → IsSaid said × IsUnder w.group.roster said × IsPayloadOf bytes_here (payloads.Submission cipher said.bytes) × ((who : SignerId) (t : Statement) → Says w.group.roster bytes_here who t → ⊥)
  submission_opens cipher said (payloads.Submission own e) fits is o = (
    o.1.0,
    o.1.1,
    subst (λ (z : List Bool). IsPayloadOf bytes_here (payloads.Submission z said.bytes)) (sym o.0)
        (subst (λ (z : List ℕ). IsPayloadOf bytes_here (payloads.Submission own z)) (sym o.1.2) (record { fits = fits; spelled = is })),
    λ who t says. not_plain own e says.envelope (payload_once (payloads.Plain says.envelope) (payloads.Submission own e) says.is.fits fits (sym says.is.spelled ∙ is)),
  )
  submission_opens cipher said (payloads.Plain e) fits is o = absurd o
  submission_opens cipher said (payloads.Certificate b sigs) fits is o = absurd o
  submission_opens cipher said (payloads.Challenge r k envelopes) fits is o = absurd o

  refused_so : (run : Run) (s : Submitted) (answer : Answer) → IsRefused run s answer → (answer ≡ answers.Early) ⊎ ((reason : Reason) × (answer ≡ answers.Ignored reason))
  refused_so run s answer (early_one above is) = inl is
  refused_so run s answer (past_one below is) = inr (reasons.Old, is)
  refused_so run s answer (is_others at first who is) = inr (reasons.Key, is)
  refused_so run s answer (on_other_prev at first who prev is) = inr (reasons.Prev, is)
  refused_so run s answer (is_of_other_length at first who prev long is) = inr (reasons.Length, is)
  refused_so run s answer (is_of_other_digest at first who prev long digest is) = inr (reasons.Digest, is)

  -- no server says anything in the message
  takes_unsaid : (d : ServerView) → ((who : SignerId) (t : Statement) → Says w.group.roster bytes_here who t → ⊥) → TakesIn w old id m tied found j to c at_c d
  takes_unsaid d none = record { hears = λ x r t phase says last runs. absurd (none (Server x) t says); not_ahead = λ x r t phase says. absurd (none (Server x) t says) }

  pub submission_answers : (cipher : List Bool) (said : SaidView) → opened_at old m.payload ≡ Some (opened.Submission cipher said) → (answer : Answer) (d : ServerView)
      → TakesSubmission c said cipher answer d → Disciplined d → AnswersSo answer d
  submission_answers cipher said carries answer d takes_it disciplined =
      let h = opens_so (opened.Submission cipher said) carries in
      let opens = submission_opens cipher said h.0 h.1 h.2 h.3 in
      by opens (put_before (opened.Submission cipher said) carries) takes_it.2
    where
      submitted : IsFitting c.run takes_it.0
          → IsSaid said × IsUnder w.group.roster said × IsPayloadOf bytes_here (payloads.Submission cipher said.bytes) × ((who : SignerId) (t : Statement) → Says w.group.roster bytes_here who t → ⊥)
          → (p : Put) × Contains (log w).puts p × (p.bytes ≡ bytes_here)
          → WasSubmitted w (Client takes_it.0.client) (kinds.Submission takes_it.0.r takes_it.0.prev takes_it.0.client takes_it.0.digest) takes_it.0.cipher
      submitted fits opens put = record {
        put = put.0;
        there = put.1;
        submits = subst (λ (b : List ℕ). Submits w.group.roster b (Client takes_it.0.client) (kinds.Submission takes_it.0.r takes_it.0.prev takes_it.0.client takes_it.0.digest) takes_it.0.cipher) (sym put.2) (record {
          submission = tt;
          envelope = said.bytes;
          is = subst (λ (z : List Bool). IsPayloadOf bytes_here (payloads.Submission z said.bytes)) (sym takes_it.1.carried) opens.2;
          unseals = subst (λ (who : SignerId). Unseals w.group.roster said.bytes who (kinds.Submission takes_it.0.r takes_it.0.prev takes_it.0.client takes_it.0.digest)) (takes_it.1.who ∙ fits.by_client)
              (subst (Unseals w.group.roster said.bytes said.signer) takes_it.1.statement (said_unseals w.group.roster said opens.0 opens.1));
        });
      }

      by : IsSaid said × IsUnder w.group.roster said × IsPayloadOf bytes_here (payloads.Submission cipher said.bytes) × ((who : SignerId) (t : Statement) → Says w.group.roster bytes_here who t → ⊥)
          → (p : Put) × Contains (log w).puts p × (p.bytes ≡ bytes_here) → SubmitsIt c takes_it.0 answer d → AnswersSo answer d
      by opens put (is_refused why same) =
          elim (refused_so c.run takes_it.0 answer why) [ inl is ↦ early is same | inr other ↦ ignores other.0 other.1 same (takes_unsaid c opens.3) ]
      by opens put (repeats_one fits has is same) =
          acts (act.Told takes_it.0.client takes_it.0.r told.Repeat ∷ []) is
          (subst (CallInRound w j c (act.Told takes_it.0.client takes_it.0.r told.Repeat ∷ [])) (sym same) (repeated_so w j c takes_it.0.client takes_it.0.r fits.round))
          (takes_unsaid d opens.3)
      by opens put (finds_no_leaf fits free few is same) = ignores reasons.Spent is same (takes_unsaid c opens.3)
      by opens put (is_claimed fits free room is same) =
          let did = act.Told takes_it.0.client takes_it.0.r (told_for c.run.window.closed)
          ∷ post_next c (client_member takes_it.0.client.0 ∷ []) (receipt_of c takes_it.0) ∷ [] in
          acts did is (subst (CallInRound w j c did) (sym same)
          (claimed_so w j c (core_tied w old tied j c at_c) takes_it.0 fits free room (submitted fits opens put) (subst Disciplined same disciplined))) (takes_unsaid d opens.3)
