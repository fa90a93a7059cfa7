use Rattle.std.proofs.Common.{arith}
use Rattle.dn_ots.proofs.BlockLemmas.{drop_put}
use Rattle.dn_ots.proofs.block.open_chain.Goals as goal

pub returns-clause-value : goal.returns-clause-value
returns-clause-value c = drop_put c.put.new.block _ c.args.x.now 23 c.put-2.ensures (omega arith) (omega arith)
