use Rattle.std.proofs.Common.{◌≡◌, ◌<◌, [], Some, None, length, get_or, take, sym, ap, ◌∙◌, subst, arith, inl, inr}
use Rattle.std.proofs.lemmas.Grind.{common_steps}
use Rattle.std.proofs.lemmas.List.{take_all}
use Rattle.dn_record_types.specs.declared.statement.Statement.TheVariants as kinds
use Rattle.dn_seal.specs.Dealt.{client}
use Rattle.dn_trace.specs.Trial.{Says, round_of}
use Rattle.dn_trace.specs.Tables.{IsSubmission, clients_of}
use Rattle.dn_trace.proofs.Tracking.{IsTracked, Own, Made, own_skip, own_noted, made_noted, tracked_same, doubles_told}
use Rattle.dn_trace.proofs.doubles.double_submitters.Goals as goal
use Rattle.dn_trace.proofs.doubles.double_submitters.Goals.{in-Client+in-Some, in-Client+in_default-submission, in_default}

pub loop-said-preserved : goal.loop-said-preserved
loop-said-preserved c =
    let trial = c.args.case.now in
    let x = c.said-item.result in
    let n = c.loop-said.said-index in
    let given = c.given-said-items.ensures.value in
    let first = c.loop-said.doubles.first.items in
    let double = c.loop-said.doubles.double.items in
    let lt : n < length trial.given = subst (λ l. n < length l) given c.loop-said-test.true in
    let at : get_or trial.given n x ≡ x = sym (c.said-item.is ∙ ap (λ l. get_or l n x) given) in
    elim c.match-signer.branch [
      | in-Client+in-Some w ↦
          let s = w.in-Some.submitted in
          let i = w.in-Client.i.0 in
          let by : x.signer ≡ client i = sym c.signer.ensures.value ∙ w.in-Client.is in
          let sub : IsSubmission w.round.result w.statement.result.now (Some s) = subst (IsSubmission w.round.result w.statement.result.now) w.in-Some.is w.submission.ensures in
          let is : x.statement ≡ kinds.Submission (round_of trial) s.prev s.client s.digest =
          sym w.statement.ensures.value ∙ sub ∙ ap (λ r. kinds.Submission r s.prev s.client s.digest) w.round.ensures in
          rw w.doubles-is (own_noted trial n x lt at first double c.loop-said.invariant i s by is w.note.new.self.first.items w.note.new.self.double.items w.note.ensures)
      | in-Client+in_default-submission w ↦
          let none : w.submission.result ≡ None = grind (arith, common_steps) in
          let sub : IsSubmission w.round.result w.statement.result.now None = subst (IsSubmission w.round.result w.statement.result.now) none w.submission.ensures in
          rw w.doubles-is (own_skip trial n x lt at first double c.loop-said.invariant
          (λ i s by is. sub s (w.statement.ensures.value ∙ is ∙ ap (λ r. kinds.Submission r s.prev s.client s.digest) (sym w.round.ensures))))
      | in_default w ↦
          rw w.doubles-is (own_skip trial n x lt at first double c.loop-said.invariant (λ i s by is. w.in_default.not-Client record { 0 = i } (c.signer.ensures.value ∙ by)))
    ]

pub loop-submitted-init : goal.loop-submitted-init
loop-submitted-init c =
    let trial = c.args.case.now in
    let whole = take_all c.loop-said.said-index trial.given (omega (arith, ap length c.given-said-items.ensures.value)) in
    tracked_same (Own trial c.loop-said.said-index) (Made trial []) (clients_of trial)
    (λ i x o. inl (subst (λ l. Says l (client i) (kinds.Submission (round_of trial) x.prev x.client x.digest)) whole o))
    c.loop-said.doubles.first.items c.loop-said.doubles.double.items
    (λ i x m. elim m [
      | inl says ↦ subst (λ l. Says l (client i) (kinds.Submission (round_of trial) x.prev x.client x.digest)) (sym whole) says
      | inr made ↦ absurd (omega (arith, made.0.1))
    ])
    c.loop-said.invariant

pub loop-submitted-preserved : goal.loop-submitted-preserved
loop-submitted-preserved c =
    made_noted c.args.case.now c.args.entered.now c.loop-submitted.submitted-index record { prev = record { 0 = 0 }; client = record { 0 = 0 }; digest = [] } c.loop-submitted-test.true
    c.loop-submitted.doubles.first.items c.loop-submitted.doubles.double.items c.loop-submitted.invariant
    c.note-in-loop-submitted.new.self.first.items c.note-in-loop-submitted.new.self.double.items c.note-in-loop-submitted.ensures

pub returns : goal.returns
returns c =
    let trial = c.args.case.now in
    let entered = c.args.entered.now in
    let whole : take c.loop-submitted.submitted-index entered ≡ entered = take_all c.loop-submitted.submitted-index entered (omega arith) in
    doubles_told trial entered c.requires c.loop-submitted.doubles.first.items c.loop-submitted.doubles.double.items
    (subst (λ l. IsTracked (Made trial l) (clients_of trial) c.loop-submitted.doubles.first.items c.loop-submitted.doubles.double.items) whole c.loop-submitted.invariant)
