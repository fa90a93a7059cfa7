use Rattle.std.proofs.Common.{sym, arith}
use Rattle.dn_lms_definitions.proofs.Laws.{sibling_even, sibling_odd}
use Rattle.dn_lms.proofs.nodes.sibling.Goals as goal

pub returns-then-r-eq0 : goal.returns-then-r-eq0
returns-then-r-eq0 c = sym (sibling_even c.args.r (omega arith))

pub returns-else-r-eq0 : goal.returns-else-r-eq0
returns-else-r-eq0 c = sym (sibling_odd c.args.r (omega arith))
