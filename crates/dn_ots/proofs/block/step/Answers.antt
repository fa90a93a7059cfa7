use Rattle.std.proofs.Common.{◌∙◌, arith}
use Rattle.std.proofs.lemmas.List.{take-set-le, length-set}
use Rattle.std.proofs.Math.ListN.{set}
use Rattle.dn_ots.proofs.BlockLemmas.{take_before, drop_put, step_of_block}
use Rattle.dn_ots.proofs.block.step.Goals as goal

pub returns-clause-head : goal.returns-clause-head
returns-clause-head c =
    let long = length-set c.args.block.now 22 c.args.j in
    take_before (set c.args.block.now 22 c.args.j) c.put.new.block _ 23 22 c.put.ensures (omega arith) (omega arith)
    ∙ take-set-le 22 c.args.block.now 22 c.args.j (omega arith)

pub returns-clause-value : goal.returns-clause-value
returns-clause-value c =
    let long = length-set c.args.block.now 22 c.args.j in
    drop_put (set c.args.block.now 22 c.args.j) c.put.new.block _ 23 c.put.ensures (omega arith) (omega arith)
    ∙ c.digest-value.ensures ∙ step_of_block c.args.block.now c.args.j (omega arith)
