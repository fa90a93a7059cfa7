use Rattle.std.proofs.Common.{◌∙◌, ℕ, [], List, length, take, sym, ap, refl, get_or}
use Rattle.dn_bits.specs.Bits.{xor_bits}
use Rattle.dn_bits.proofs.SumLemmas.{xor_zeros}
use Rattle.dn_pads.specs.Pads.{pad_of}
use Rattle.dn_combine.specs.Parts.{pads_of}
use Rattle.dn_combine.proofs.Sums.{pads_long, pads-more, length-more}
use Rattle.dn_combine.proofs.combining.add_pads.Goals as goal

pub loop-seed-init : goal.loop-seed-init
loop-seed-init c = (sym (xor_zeros c.args.sum.now (length c.args.sum.now) refl), refl)

pub loop-seed-preserved : goal.loop-seed-preserved
loop-seed-preserved c =
    let n = length c.args.sum.now in
    let r = c.args.r.0 in
    let seed : List ℕ = get_or c.args.seeds.now c.loop-seed.seed-index [] in
    let value = c.add_pad.ensures
    ∙ ap (λ k. xor_bits c.loop-seed.sum (pad_of seed r k)) c.loop-seed.invariant.1
    ∙ ap (λ x. xor_bits x (pad_of seed r n)) c.loop-seed.invariant.0
    ∙ pads-more n c.args.sum.now c.args.seeds.now r c.loop-seed.seed-index [] refl c.loop-seed-test.true in
    (value, ap length value ∙ length-more n c.args.sum.now (pads_of (take _ c.args.seeds.now) r n) refl (pads_long (take _ c.args.seeds.now) r n))
