-- An honest server answers to a statement of a round that reaches it.
use Rattle.std.proofs.Common.{◌≡◌, ◌≢◌, ℕ, ◌<◌, ◌≤◌, List, [], ◌∷◌, ◌++◌, refl, sym, ap, subst, ◌∙◌, inl, inr, true, false, arith}
use Rattle.std.specs.Prelude.{Contains, ◌⊎◌, Some, None}
use Rattle.std.proofs.lemmas.Option.{same_Some}
use Rattle.dn_wire.specs.declared.ids.ServerId.{ServerId}
use Rattle.dn_wire.specs.declared.ids.Round.{Round}
use Rattle.dn_wire.specs.declared.ids.Member.TheVariants as members
use Rattle.dn_wire.specs.declared.ids.SignerId.{SignerId}
use Rattle.dn_wire.specs.declared.ids.SignerId.TheVariants.{Server}
use Rattle.dn_record_types.specs.declared.payload.Payload.TheVariants as payloads
use Rattle.dn_record_types.specs.declared.statement.Statement.{Statement}
use Rattle.dn_record_types.specs.declared.statement.Statement.TheVariants as kinds
use Rattle.dn_record_types.proofs.RecordLaws.{payload_once}
use Rattle.dn_records.specs.Records.{kind_byte}
use Rattle.dn_seal.specs.Dealt.{server}
use Rattle.dn_seal.specs.Said.{SaidView, IsSaid, IsUnder, Unseals}
use Rattle.dn_seal.proofs.SaidLemmas.{said_unseals, unsealed_once}
use Rattle.dn_cert.specs.declared.opened.Opened.TheVariants as opened
use Rattle.dn_server.specs.declared.act.Act.{Act}
use Rattle.dn_server.specs.declared.act.Act.TheVariants as act
use Rattle.dn_server.specs.declared.answer.Answer.{Answer}
use Rattle.dn_server.specs.declared.answer.Answer.TheVariants as answers
use Rattle.dn_server.specs.declared.answer.Reason.TheVariants as reasons
use Rattle.dn_server.specs.Keeping.{round_of}
use Rattle.dn_server.specs.Server.{ServerView, statement_of, ended}
use Rattle.dn_rounds.specs.Going.{spoiled_twice}
use Rattle.dn_openings.specs.Hearing.{HearsEvidence}
use Rattle.dn_exchange.specs.Disciplined.{Disciplined}
use Rattle.dn_exchange.specs.Hearing.{HearsRound, Differing, with_kept}
use Rattle.dn_exchange.specs.Hearing.HearsRound.{is_early, is_past, is_idle, repeats, is_second, is_faulty, goes_on}
use Rattle.dn_exchange.specs.Spoiling.{OwnBodiesAreDue, TellsDueBodies}
use Rattle.dn_flight.specs.declared.msg.Msg.{Msg}
use Rattle.dn_flight.specs.Flight.{with_id}
use Rattle.dn_state.specs.Parts.{PartsView}
use Rattle.dn_state.specs.Members.{server_at}
use Rattle.dn_state.specs.Delivering.{opened_at}
use Rattle.dn_headline.specs.Log.{message_of}
use Rattle.dn_headline.specs.Run.{RunView, log}
use Rattle.dn_headline.specs.Spoken.{Says, WasSaid, IsPayloadOf}
use Rattle.dn_headline.specs.Delivered.{IsPhaseOf}
use Rattle.dn_links.proofs.Linking.{kept_there}
use Rattle.dn_steps.specs.Tied.{IsTied, IsServerTied}
use Rattle.dn_steps.proofs.Idle.{clash}
use Rattle.dn_steps.proofs.Members.{server_is_honest}
use Rattle.dn_steps.proofs.Putting.{plain_opens}
use Rattle.dn_steps.proofs.Closing.{CallInRound}
use Rattle.dn_steps.proofs.ClosingEvents.{core_tied}
use Rattle.dn_steps.proofs.Arriving.{TakesIn}
use Rattle.dn_steps.proofs.HearingRounds.{goes_on_so, keeps_said, second_so, faulty_so}
use Rattle.dn_steps.proofs.Answering.{phase_round, AnswersSo, opens_so, put_before}
use Rattle.dn_steps.proofs.Answering.AnswersSo.{early, ignores, acts}

module _ (w : RunView) (old : PartsView) (id : ℕ) (m : Msg) (tied : IsTied w old) (found : with_id id old.flight.msgs ≡ Some m) (j : ServerId) (to : m.to ≡ members.Server j)
    (c : ServerView) (at_c : server_at old j ≡ Some c) (said : SaidView) (carries : opened_at old m.payload ≡ Some (opened.Plain said)) where
  abbrev bytes_here : List ℕ
  bytes_here = (message_of (log w) id).bytes

  abbrev Takes : ServerView → Type 0
  Takes d = TakesIn w old id m tied found j to c at_c d

  abbrev Answers : Answer → ServerView → Type 0
  Answers answer d = AnswersSo w old id m tied found j to c at_c answer d

  opens : IsSaid said × IsUnder w.group.roster said × IsPayloadOf bytes_here (payloads.Plain said.bytes)
  opens = let h = opens_so w old id m tied found j to c at_c (opened.Plain said) carries in plain_opens w.group.roster bytes_here said h.0 h.1 h.2 h.3

  pub unseals : Unseals w.group.roster said.bytes said.signer said.statement
  unseals = said_unseals w.group.roster said opens.0 opens.1

  -- what it says was said before
  pub was_said : WasSaid w said.signer said.statement
  was_said =
      let put = put_before w old id m tied found j to c at_c (opened.Plain said) carries in
      record {
        put = put.0;
        there = put.1;
        says = subst (λ (b : List ℕ). Says w.group.roster b said.signer said.statement) (sym put.2) (record { envelope = said.bytes; is = opens.2; unseals = unseals });
      }

  same_plain : (d e : List ℕ) → payloads.Plain d ≡ payloads.Plain e → d ≡ e
  same_plain d e h = cc

  -- and nothing else is said in it
  pub says_is : (who : SignerId) (t : Statement) → Says w.group.roster bytes_here who t → (said.signer ≡ who) × (said.statement ≡ t)
  says_is who t says =
      let same = same_plain says.envelope said.bytes (payload_once (payloads.Plain says.envelope) (payloads.Plain said.bytes) says.is.fits tt (sym says.is.spelled ∙ opens.2.spelled)) in
      let one = unsealed_once w.group.roster said.bytes who said.signer t said.statement (subst (λ (b : List ℕ). Unseals w.group.roster b who t) same says.unseals) unseals in
      (sym one.0, sym one.1)

  -- a statement that is none of a round
  pub takes_none : (d : ServerView) → round_of said.statement ≡ None → Takes d
  takes_none d none = record {
    hears = λ x r t phase says last runs. absurd (not_some r (sym none ∙ ap round_of (says_is (Server x) t says).1 ∙ phase_round r t phase));
    not_ahead = λ x r t phase says. absurd (not_some r (sym none ∙ ap round_of (says_is (Server x) t says).1 ∙ phase_round r t phase));
  } where
    not_some : (r : Round) → None ≡ Some r → ⊥
    not_some r e = absurd cc

  -- a statement of a round that no server makes
  pub takes_no_server : (d : ServerView) → ((k : ℕ) → said.signer ≢ server k) → Takes d
  takes_no_server d none = record {
    hears = λ x r t phase says last runs. absurd (none x.0 (says_is (Server x) t says).0);
    not_ahead = λ x r t phase says. absurd (none x.0 (says_is (Server x) t says).0);
  }

  -- ---- a statement of a round

  module _ (k : ℕ) (r : Round) (by_k : said.signer ≡ server k) (round : round_of said.statement ≡ Some r) where
    abbrev x : ServerId
    x = record { 0 = k }

    core : IsServerTied w j c
    core = core_tied w old tied j c at_c

    -- the round of what is said
    round_said : (y : ServerId) (q : Round) (t : Statement) → IsPhaseOf q t → Says w.group.roster bytes_here (Server y) t → q ≡ r
    round_said y q t phase says = same_Some q r (sym (phase_round q t phase) ∙ ap round_of (sym (says_is (Server y) t says).1) ∙ round)

    -- it isn't kept where the core runs another round, or none
    takes_if : (d : ServerView) → r.0 ≤ d.run.r.0 → (r.0 ≡ d.run.r.0 → d.run.is_running ≡ true → Contains d.run.kept said) → Takes d
    takes_if d below keeps = record {
      hears = λ y q t phase says last runs.
          let at = round_said y q t phase says in
          let is = says_is (Server y) t says in
          (said, keeps (ap (λ (z : Round). z.0) (sym at) ∙ sym last) runs, is.0, is.1);
      not_ahead = λ y q t phase says. subst (λ (z : Round). z.0 ≤ d.run.r.0) (sym (round_said y q t phase says)) below;
    }

    -- or it keeps one that says the same
    takes_again : (d : ServerView) → r.0 ≤ d.run.r.0 → ((other : SaidView) × Contains d.run.kept other × (other.signer ≡ server k) × (other.statement ≡ said.statement)) → Takes d
    takes_again d below other = record {
      hears = λ y q t phase says last runs. let is = says_is (Server y) t says in (other.0, other.1, other.2 ∙ sym by_k ∙ is.0, other.3 ∙ is.1);
      not_ahead = λ y q t phase says. subst (λ (z : Round). z.0 ≤ d.run.r.0) (sym (round_said y q t phase says)) below;
    }

    same_round : (a b : Round) → a ≡ b → a.0 ≤ b.0
    same_round a b e = let n = ap (λ (z : Round). z.0) e in omega arith

    -- the core that ended its round keeps nothing more
    takes_ended : (d from : ServerView) → d ≡ ended from → from.run.r ≡ r → Takes d
    takes_ended d from same at = takes_if d (same_round r d.run.r (sym at ∙ ap (λ (z : ServerView). z.run.r) (sym same)))
        (λ q on. absurd (clash d.run.is_running on (ap (λ (z : ServerView). z.run.is_running) same)))

    in_round_now : r ≡ c.run.r → round_of said.statement ≡ Some c.run.r
    in_round_now at = round ∙ ap Some at

    pub round_answers : (answer : Answer) (d : ServerView) → HearsRound c k r said answer d → Disciplined d → ((did : List Act) → answer ≡ answers.Acts did → OwnBodiesAreDue d did)
        → Answers answer d
    round_answers answer d (is_early above is same) disciplined due = early is same
    round_answers answer d (is_past below is same) disciplined due =
        ignores reasons.Old is same (takes_if c (omega (arith, below)) (λ q on. absurd (omega (arith, below, q))))
    round_answers answer d (is_idle at off is same) disciplined due =
        ignores reasons.Idle is same (takes_if c (same_round r c.run.r at) (λ q on. absurd (clash c.run.is_running on off)))
    round_answers answer d (repeats at on there is same) disciplined due =
        ignores reasons.Repeat is same (takes_again c (same_round r c.run.r at) (kept_there c.run.kept (kind_byte said.statement) k said.statement there))
    round_answers answer d (is_second other at on there differ is same) disciplined due =
        acts (spoiled_twice k other said.statement ∷ []) is
        (second_so w j c (server_is_honest w old tied j c at_c).server tied.group.is_roster core x said by_k was_said (in_round_now at) on d other there differ same disciplined)
        (takes_ended d c same (sym at))
    round_answers answer d (is_faulty fault at on none has is same) disciplined due =
        acts (act.Spoiled x fault.reason fault.kept fault.came ∷ []) is
        (faulty_so w j c (server_is_honest w old tied j c at_c).server tied.group.is_roster core x said by_k was_said (in_round_now at) on d fault has same disciplined
        (due (act.Spoiled x fault.reason fault.kept fault.came ∷ []) is))
        (takes_ended d (with_kept c said) same (sym at))
    round_answers answer d (goes_on did at on none faultless goes is) disciplined due =
        let call = goes_on_so w j c (server_is_honest w old tied j c at_c).server tied.group.is_roster core x said by_k was_said (in_round_now at) on did d goes disciplined (due did is) in
        acts did is call (takes_if d (same_round r d.run.r (at ∙ sym call.does.r))
        (λ q runs. keeps_said w j c (server_is_honest w old tied j c at_c).server tied.group.is_roster core x said by_k was_said (in_round_now at) on did d goes))
