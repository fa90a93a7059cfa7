use Rattle.std.proofs.Common.{◌∙◌, List, Bool, length, ap}
use Rattle.dn_puppets.proofs.Lengths.{length-lured}
use Rattle.dn_puppets.proofs.luring.true_bits.Goals as goal

pub loop-row-preserved : goal.loop-row-preserved
loop-row-preserved c =
    ap (λ (b : List Bool). length b) c.turned_for-bits.ensures ∙ length-lured c.if-is_true.turned_for c.loop-row.bits ∙ c.loop-row.invariant
