use Rattle.std.proofs.Common.{◌≡◌, ◌+◌, ◌-◌, ◌∙◌, [], take, drop, refl, arith}
use Rattle.std.specs.Prelude.{slice_index_or}
use Rattle.dn_ots.proofs.ChainLemmas.{chain_none, chain_more}
use Rattle.dn_ots.proofs.four.run_four.Goals as goal

pub steps-init : goal.steps-init
steps-init c k below =
    let none : c.args.from - c.args.from ≡ 0 = omega arith in
    (refl, rw (none, chain_none) refl)

pub steps-preserved : goal.steps-preserved
steps-preserved c k below =
    let block = slice_index_or c.args.blocks k [] in
    let now = slice_index_or c.steps.blocks k [] in
    let held = c.steps.invariant k below in
    let at : c.steps.j ≡ c.args.from + (c.steps.j - c.args.from) = omega arith in
    let count : c.steps.j + 1 - c.args.from ≡ c.steps.j - c.args.from + 1 = omega arith in
    let next = chain_more (take 22 block) (drop 23 block) (drop 23 now) c.args.from c.steps.j (c.steps.j - c.args.from) held.1 at in
    (c.step_four-blocks.ensures.head k below ∙ held.0, rw (count, ← next, ← held.0) (c.step_four-blocks.ensures.value k below))
