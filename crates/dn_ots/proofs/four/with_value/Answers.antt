use Rattle.std.proofs.Common.{arith}
use Rattle.dn_ots.proofs.BlockLemmas.{take_before, drop_put}
use Rattle.dn_ots.proofs.four.with_value.Goals as goal

pub returns-clause-head : goal.returns-clause-head
returns-clause-head c = take_before c.args.block.now c.put.new.block c.args.value.now 23 22 c.put.ensures (omega arith) (omega arith)

pub returns-clause-value : goal.returns-clause-value
returns-clause-value c = drop_put c.args.block.now c.put.new.block c.args.value.now 23 c.put.ensures (omega arith) (omega arith)
