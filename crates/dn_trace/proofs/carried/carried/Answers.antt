use Rattle.std.proofs.Common.{◌≡◌, ◌<◌, [], ◌∷◌, ◌++◌, length, get_or, None, sym, ap, ◌∙◌, subst, arith}
use Rattle.std.proofs.lemmas.Grind.{common_steps}
use Rattle.std.specs.Prelude.{IfSome}
use Rattle.dn_trace.specs.Evidence.{AreCarried, IsPadIn, HasPadIn}
use Rattle.dn_trace.proofs.Upto.{upto_all}
use Rattle.dn_trace.proofs.CarriedLemmas.{carried_none, carried_some}
use Rattle.dn_trace.proofs.carried.carried.Goals as goal
use Rattle.dn_trace.proofs.carried.carried.Goals.{in-Some+in_ok-push, in_default}

pub loop-said-preserved : goal.loop-said-preserved
loop-said-preserved c =
    let trial = c.args.case.now in
    let x = c.said-item.result in
    let n = c.loop-said.said-index in
    let given = c.given-said-items.ensures.value in
    let lt : n < length trial.given = subst (λ l. n < length l) given c.loop-said-test.true in
    let at : get_or trial.given n x ≡ x = sym (c.said-item.is ∙ ap (λ l. get_or l n x) given) in
    let some = subst (λ s. IfSome c.in_ok-pad.field-0 (λ p. IsPadIn trial s p.signer p.statement)) c.statement.ensures.value c.in_ok-pad.ensures.some in
    let each = subst (λ s. HasPadIn trial s c.in_ok-pad.field-0) c.statement.ensures.value c.in_ok-pad.ensures.each in
    elim c.match-branch-2.branch [
      | in-Some+in_ok-push w ↦
          let more : c.match-branch-2.pads.items ≡ c.loop-said.pads.items ++ w.in-Some.pad ∷ [] = grind (arith, common_steps) in
          rw more (carried_some trial n x lt at c.loop-said.pads.items w.in-Some.pad (rw w.in-Some.is at some) (rw w.in-Some.is at each) c.loop-said.invariant)
      | in_default w ↦
          let none : c.in_ok-pad.field-0 ≡ None = grind (arith, common_steps) in
          let same : c.match-branch-2.pads.items ≡ c.loop-said.pads.items = grind (arith, common_steps) in
          rw same (carried_none trial n x lt at c.loop-said.pads.items (rw none at each) c.loop-said.invariant)
    ]

pub returns : goal.returns
returns c =
    let trial = c.args.case.now in
    let whole : c.loop-said.said-index ≡ length trial.given = omega (arith, ap length c.given-said-items.ensures.value) in
    subst (λ t. AreCarried t c.loop-said.pads.items) (upto_all trial c.loop-said.said-index whole) c.loop-said.invariant
