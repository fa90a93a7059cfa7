use Rattle.std.proofs.Common.{sym, ap, ◌∙◌}
use Rattle.dn_bits.specs.Bits.{xor, bit}
use Rattle.dn_trace.proofs.XorLemmas.{xor_all-take_more}
use Rattle.dn_trace.proofs.openings.ciphers_at.Goals as goal

pub loop-x-preserved : goal.loop-x-preserved
loop-x-preserved c =
    c.either-sum.ensures ∙ (λ t. xor (c.loop-x.invariant t) ((c.get_or_zero.ensures ∙ ap (λ x. bit x.cipher c.args.k) c.x-item.is) t))
    ∙ sym (xor_all-take_more (λ y. bit y.cipher c.args.k) c.args.shown.now c.loop-x.x-index c.x-item.result c.loop-x-test.true)
