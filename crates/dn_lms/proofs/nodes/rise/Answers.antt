use Rattle.std.proofs.Common.{◌∙◌, sym, arith}
use Rattle.dn_lms_definitions.proofs.Laws.{rise_even, rise_odd}
use Rattle.dn_lms.proofs.nodes.rise.Goals as goal

pub returns-then-r-eq0 : goal.returns-then-r-eq0
returns-then-r-eq0 c = c.inner_hash.ensures ∙ sym (rise_even c.args.id.now c.args.value.now c.args.beside.now c.args.r (omega arith))

pub returns-else-r-eq0 : goal.returns-else-r-eq0
returns-else-r-eq0 c = c.inner_hash-else-r-eq0.ensures ∙ sym (rise_odd c.args.id.now c.args.value.now c.args.beside.now c.args.r (omega arith))
