use Rattle.std.proofs.Common.{sym, ◌∙◌}
use Rattle.dn_openings.proofs.PadLemmas.{stays, same_bit}
use Rattle.dn_openings.proofs.pads.set_bit.Goals as goal

pub returns-else-get-value : goal.returns-else-get-value
returns-else-get-value c = stays c.args.bits.now c.args.i c.args.value (sym c.get.ensures ∙ same_bit c.get.result c.args.value c.if-get-value.false)
