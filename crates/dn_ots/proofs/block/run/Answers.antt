use Rattle.std.proofs.Common.{◌≡◌, ◌+◌, ◌-◌, ◌∙◌, take, drop, refl, arith}
use Rattle.dn_ots.proofs.ChainLemmas.{chain_none, chain_more}
use Rattle.dn_ots.proofs.block.run.Goals as goal

pub steps-init : goal.steps-init
steps-init c =
    let none : c.args.from - c.args.from ≡ 0 = omega arith in
    (refl, rw (none, chain_none) refl)

pub steps-preserved : goal.steps-preserved
steps-preserved c =
    let head = take 22 c.args.block.now in
    let at : c.steps.j ≡ c.args.from + (c.steps.j - c.args.from) = omega arith in
    let count : c.steps.j + 1 - c.args.from ≡ c.steps.j - c.args.from + 1 = omega arith in
    let next = chain_more head (drop 23 c.args.block.now) (drop 23 c.steps.block) c.args.from c.steps.j (c.steps.j - c.args.from) c.steps.invariant.1 at in
    (c.step.ensures.head ∙ c.steps.invariant.0, rw (count, ← next, ← c.steps.invariant.0) c.step.ensures.value)
