-- An honest server answers to an accusation, an opening or an answer of a client that reaches it.
use Rattle.std.proofs.Common.{◌≡◌, ◌≢◌, ℕ, ◌≤◌, List, [], ◌∷◌, ◌++◌, length, refl, sym, ap, subst, ◌∙◌, inl, inr, true, false, arith}
use Rattle.std.specs.Prelude.{Contains, ◌⊎◌, ◌-◌, Some, None, slice_get}
use Rattle.dn_wire.specs.declared.ids.ServerId.{ServerId}
use Rattle.dn_wire.specs.declared.ids.Round.{Round}
use Rattle.dn_wire.specs.declared.ids.Member.TheVariants as members
use Rattle.dn_wire.specs.declared.ids.SignerId.{SignerId}
use Rattle.dn_wire.specs.declared.ids.SignerId.TheVariants.{Server}
use Rattle.dn_record_types.specs.declared.body.Body.{Body}
use Rattle.dn_record_types.specs.declared.statement.Statement.{Statement}
use Rattle.dn_record_types.specs.declared.statement.Statement.TheVariants as kinds
use Rattle.dn_seal.specs.Dealt.{server}
use Rattle.dn_seal.specs.Said.{SaidView}
use Rattle.dn_seal.specs.Signer.{CanSign}
use Rattle.dn_cert.specs.Chain.{ChainView, bodies}
use Rattle.dn_cert.specs.declared.opened.Opened.TheVariants as opened
use Rattle.dn_server.specs.declared.act.Act.{Act}
use Rattle.dn_server.specs.declared.act.Act.TheVariants as act
use Rattle.dn_server.specs.declared.answer.Answer.{Answer}
use Rattle.dn_server.specs.declared.answer.Answer.TheVariants as answers
use Rattle.dn_server.specs.declared.answer.Reason.{Reason}
use Rattle.dn_server.specs.declared.answer.Reason.TheVariants as reasons
use Rattle.dn_server.specs.declared.claims.Claim.{Claim}
use Rattle.dn_server.specs.declared.past.Past.{Past}
use Rattle.dn_server.specs.declared.run.Run.{Run}
use Rattle.dn_server.specs.Justified.{Seat}
use Rattle.dn_server.specs.Keeping.{round_of}
use Rattle.dn_server.specs.Server.{ServerView, itself, left_of, past_of}
use Rattle.dn_openings.specs.Evidence.{with_evidence}
use Rattle.dn_openings.specs.Accusing.{Accuses, leaves_due, reason_for}
use Rattle.dn_openings.specs.Accusing.Accuses.{not_signed, not_valid, is_opened, is_spent, opens}
use Rattle.dn_openings.specs.Hearing.{HearsEvidence, HearsOpening, HearsAnswer}
use Rattle.dn_openings.specs.Hearing.HearsEvidence.{of_no_use, opening, accusation, answers as client_answers}
use Rattle.dn_openings.specs.Hearing.HearsOpening.{not_held, repeats, keeps}
use Rattle.dn_openings.specs.Hearing.HearsAnswer.{repeats_it, keeps_it}
use Rattle.dn_exchange.specs.Disciplined.{Disciplined}
use Rattle.dn_flight.specs.declared.msg.Msg.{Msg}
use Rattle.dn_flight.specs.Flight.{with_id}
use Rattle.dn_state.specs.Parts.{PartsView}
use Rattle.dn_state.specs.Members.{server_at}
use Rattle.dn_state.specs.Delivering.{opened_at}
use Rattle.dn_headline.specs.Run.{RunView}
use Rattle.dn_headline.specs.Delivered.{IsPhaseOf}
use Rattle.dn_headline.specs.Invariant.{HoldsOneEach, word_of}
use Rattle.dn_links.specs.Link.{IsOfRecord}
use Rattle.dn_steps.specs.Tied.{IsTied, IsServerTied}
use Rattle.dn_steps.proofs.Closing.{CallInRound}
use Rattle.dn_steps.proofs.ClosingEvents.{core_tied}
use Rattle.dn_steps.proofs.OpeningPlaces.{IsOpening, IsPost, IsIts, OpensBy, Looks, looks_all, looks_then, hears_so, opens_so}
use Rattle.dn_steps.proofs.Answering.{AnswersSo}
use Rattle.dn_steps.proofs.Answering.AnswersSo.{ignores, acts}
use Rattle.dn_steps.proofs.AnsweringRounds.{unseals, takes_none}

-- ---- a server that opens places acts in its round

opening_of_record : (d : ServerView) (t : Statement) → IsOpening t → IsOfRecord d t
opening_of_record d (kinds.PadBits r k bits) h = tt
opening_of_record d (kinds.Shown r sum ciphers) h = tt
opening_of_record d _ h = absurd h

opening_is_no_phase : (t : Statement) (r : Round) → IsOpening t → IsPhaseOf r t → ⊥
opening_is_no_phase (kinds.PadBits q k bits) r h phase = phase
opening_is_no_phase (kinds.Shown q sum ciphers) r h phase = phase
opening_is_no_phase _ r h phase = absurd h

module _ (w : RunView) (j : ServerId) (c : ServerView) (tied : IsServerTied w j c) (d : ServerView) (seat : d.seat ≡ c.seat) (disciplined : Disciplined d) where
  can : (t : Statement) → Contains d.signed t → CanSign (Server j) t
  can t h = subst (λ (who : SignerId). CanSign who t) (ap (λ (z : Seat). server z.number) (seat ∙ tied.linked.seat)) (disciplined.fits t h)

  its : IsIts w.group.roster j c.key tied.key tied.disciplined.is_key d.signed can c
  its = record { roster_is = ap (λ (z : Seat). z.roster) tied.linked.seat; itself_is = ap (λ (z : Seat). server z.number) tied.linked.seat; key_is = refl }

  abbrev LooksSo : ServerView → List Act → ServerView → Type 0
  LooksSo from did after = Looks w.group.roster j c.key tied.key tied.disciplined.is_key d.signed can from did after

  looks_in_round : (did : List Act) → LooksSo c did d → CallInRound w j c did d
  looks_in_round did looks =
      let by = looks.0 in
      record {
        fresh = by.fresh;
        does = record {
          seat = by.seat;
          key = by.key_stays;
          r = ap (λ (z : Run). z.r) by.run;
          prev = ap (λ (z : Run). z.prev) by.run;
          stays_closed = λ h. ap (λ (z : Run). z.window.closed) by.run ∙ h;
          keeps = λ said h. subst (λ (z : Run). Contains z.kept said) (sym by.run) h;
          kept = λ said h. inl (subst (λ (z : Run). Contains z.kept said) by.run h);
          none_opened = λ q p h. by.all_posts (act.Opened q p) h;
          closes = λ q count h. absurd (by.all_posts (act.Closed q count) h);
          told = λ i q t h. absurd (by.all_posts (act.Told i q t) h);
          claims = λ i claim h. inl (subst (λ (z : Run). slice_get z.claims i.0 ≡ Some (Some claim)) by.run h);
          claimed = λ i claim h. subst (λ (z : Run). slice_get z.claims i.0 ≡ Some (Some claim)) (sym by.run) h;
          told_claimed = λ i word h. absurd (by.all_posts (act.Told i c.run.r (word_of word)) h);
          signed = by.signed;
          of_record = λ t h. opening_of_record d t (by.of_kind t h);
          posted = λ t h. let p = by.says t h in
              record { to = p.0; bytes = p.1; posted = p.2; says = p.3; others = λ r k phase hk ne. absurd (opening_is_no_phase t r (by.of_kind t h) phase) };
          fronts = by.fronts;
          prev_held = λ b h. absurd (by.of_kind (kinds.Sign b) h);
          grows = record {
            slots = ap (λ (z : ChainView). z.slots) by.chain;
            held = λ b h. subst (λ (z : ChainView). Contains (bodies z) b) (sym by.chain) h;
          };
          one_each = λ one. subst HoldsOneEach (sym by.chain) one;
          new_held = λ b h. inl (subst (λ (z : ChainView). Contains (bodies z) b) by.chain h);
          certified = λ e h. absurd (by.all_posts (act.Certified e) h);
          none_held = λ q h. by.all_posts (act.Held q) h;
          runs_on = λ on. ap (λ (z : Run). z.is_running) (sym by.run) ∙ on;
          ran = λ on. inl (ap (λ (z : Run). z.is_running) by.run ∙ on);
          spoiled = λ x reason kept came h. absurd (by.all_posts (act.Spoiled x reason kept came) h);
          openings = looks.1;
        };
        carried = by.carried;
      }

module _ (w : RunView) (old : PartsView) (id : ℕ) (m : Msg) (tied : IsTied w old) (found : with_id id old.flight.msgs ≡ Some m) (j : ServerId) (to : m.to ≡ members.Server j)
    (c : ServerView) (at_c : server_at old j ≡ Some c) (said : SaidView) (carries : opened_at old m.payload ≡ Some (opened.Plain said)) (none : round_of said.statement ≡ None)
    (answer : Answer) (d : ServerView) (seat : d.seat ≡ c.seat) (disciplined : Disciplined d) where
  abbrev Answers : Type 0
  Answers = AnswersSo w old id m tied found j to c at_c answer d

  core : IsServerTied w j c
  core = core_tied w old tied j c at_c

  abbrev LooksNow : ServerView → List Act → ServerView → Type 0
  LooksNow from did after = LooksSo w j c core d seat disciplined from did after

  acts_so : (did : List Act) → answer ≡ answers.Acts did → LooksNow c did d → Answers
  acts_so did is looks = acts did is (looks_in_round w j c core d seat disciplined did looks) (takes_none w old id m tied found j to c at_c said carries d none)

  heard_so : LooksNow c [] (with_evidence c said)
  heard_so = hears_so w.group.roster j c.key core.key core.disciplined.is_key d.signed (can w j c core d seat disciplined) c said (unseals w old id m tied found j to c at_c said carries)

  ignored : (reason : Reason) → answer ≡ answers.Ignored reason → d ≡ c → Answers
  ignored reason is same = ignores reason is same (takes_none w old id m tied found j to c at_c said carries c none)

  opening_so : (r : Round) → HearsOpening c r said answer d → Answers
  opening_so r (not_held unheld is same) = ignored reasons.Body is same
  opening_so r (repeats held again is same) = ignored reasons.Repeat is same
  opening_so r (keeps places did held fresh touched looks is) =
      acts_so did is (looks_then w.group.roster j c.key core.key core.disciplined.is_key d.signed (can w j c core d seat disciplined) c (with_evidence c said) d [] did heard_so
      (looks_all w.group.roster j c.key core.key core.disciplined.is_key d.signed (can w j c core d seat disciplined) (with_evidence c said) d places did looks))

  accusation_so : (r : Round) → Accuses c r said answer d → Answers
  accusation_so r (not_signed no_body is same) = ignored reasons.Body is same
  accusation_so r (not_valid b past layout why accused invalid is same) = ignored (reason_for why) is same
  accusation_so r (is_opened b past layout valid accused holds again is same) = ignored reasons.Repeat is same
  accusation_so r (is_spent b past layout valid accused holds new few is same) = ignored reasons.Spent is same
  accusation_so r (opens b past layout valid did accused holds new leaves opened_it is) =
      let same_round : past.body.r ≡ b.r = ap (λ (z : Body). z.r) accused.body.of_body in
      let round : past.body.r ≡ r = same_round ∙ accused.body.round in
      let enough : leaves_due c past.body.r ≤ left_of c = subst (λ (q : Round). leaves_due c q ≤ left_of c) (sym round) (omega (arith, leaves)) in
      acts_so did is (opens_so w.group.roster j c.key core.key core.disciplined.is_key d.signed (can w j c core d seat disciplined) c d (its w j c core d seat disciplined) b past _ did opened_it
      (subst (λ (q : Round). past_of c.pasts q.0 ≡ Some past) (sym round) accused.body.kept) same_round enough (λ t h. h) core.openings)

  answer_so : HearsAnswer c said answer d → Answers
  answer_so (repeats_it again is same) = ignored reasons.Repeat is same
  answer_so (keeps_it fresh is same) = acts_so [] is (subst (LooksNow c []) (sym same) heard_so)

  pub evidence_answers : HearsEvidence c said answer d → Answers
  evidence_answers (of_no_use useless is same) = ignored reasons.Kind is same
  evidence_answers (opening r by_server round h) = opening_so r h
  evidence_answers (accusation r slot k is h) = accusation_so r h
  evidence_answers (client_answers by_client is h) = answer_so h
