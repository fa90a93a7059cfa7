use Rattle.std.proofs.Common.{sym, ap, ◌∙◌}
use Rattle.dn_bits.specs.Bits.{xor}
use Rattle.dn_cert.specs.Evidence.{shown_bit}
use Rattle.dn_trace.proofs.XorLemmas.{xor_all-take_more}
use Rattle.dn_trace.proofs.openings.pads_for.Goals as goal

pub loop-opening-preserved : goal.loop-opening-preserved
loop-opening-preserved c =
    c.either-sum.ensures ∙ (λ t. xor (c.loop-opening.invariant t) ((c.shown_bit.ensures ∙ ap (λ o. shown_bit o.pad.now c.args.i) c.opening-item.is) t))
    ∙ sym (xor_all-take_more (λ o. shown_bit o.pad.now c.args.i) c.args.openings.now c.loop-opening.opening-index c.opening-item.result c.loop-opening-test.true)
