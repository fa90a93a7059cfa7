use Rattle.std.proofs.Common.{arith}
use Rattle.dn_lms.specs.Key.{leaves_of}
use Rattle.dn_lms_definitions.proofs.Laws.{sizes}
use Rattle.dn_lms.proofs.tree.leaves_of.Goals as goal

pub overflow_shl-result : goal.overflow_shl-result
overflow_shl-result c = let s = sizes c.args.lms c.requires in omega arith

pub returns : goal.returns
unfolding leaves_of
returns c = let s = sizes c.args.lms c.requires in rw c.height_of.ensures (omega arith)
