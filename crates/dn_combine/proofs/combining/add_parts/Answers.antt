use Rattle.std.proofs.Common.{◌≡◌, ◌∙◌, ◌*◌, ℕ, length, take, sym, ap, refl, arith}
use Rattle.dn_bits.specs.Bits.{xor_bits, sum_bits}
use Rattle.dn_bits.proofs.SumLemmas.{xor_zeros}
use Rattle.dn_combine.specs.Parts.{pads_of}
use Rattle.std.specs.Fork.{slice_chunk}
use Rattle.dn_combine.proofs.Sums.{part_is, parts-more, length-more, pads_long, length-sum_all}
use Rattle.dn_combine.proofs.combining.add_parts.Goals as goal

pub loop-part-init : goal.loop-part-init
loop-part-init c =
    let n = length c.args.sum.now in
    let none : 0 * c.args._size ≡ 0 = omega arith in
    (sym (ap (λ (k : ℕ). xor_bits c.args.sum.now (sum_bits n (pads_of (take k c.args._seeds.now) c.args._r.0 n))) none ∙ xor_zeros c.args.sum.now n refl), refl)

pub xor_into-requires : goal.xor_into-requires
xor_into-requires c =
    let n = length c.args.sum.now in
    let pads = pads_of (slice_chunk c.args._seeds.now c.args._size c.loop-part.part-index) c.args._r.0 n in
    c.loop-part.invariant.1 ∙ sym (ap length (part_is c.args._seeds.now c.args._r.0 n c.args._size c.loop-part.part-index c.args.parts.now c.in-Ok.part c.part-item.result c.requires c.loop-part-test.true (sym c.part-item.is ∙ c.in-Ok.is)) ∙ length-sum_all n pads (pads_long _ c.args._r.0 n))

pub loop-part-preserved : goal.loop-part-preserved
loop-part-preserved c =
    let n = length c.args.sum.now in
    let i = c.loop-part.part-index in
    let here = part_is c.args._seeds.now c.args._r.0 n c.args._size i c.args.parts.now c.in-Ok.part c.part-item.result c.requires c.loop-part-test.true (sym c.part-item.is ∙ c.in-Ok.is) in
    let value = c.xor_into.ensures
    ∙ ap (λ x. xor_bits x c.in-Ok.part) c.loop-part.invariant.0
    ∙ parts-more n c.args.sum.now c.args._seeds.now c.args._r.0 i c.args._size c.in-Ok.part refl here in
    (value, ap length value ∙ length-more n c.args.sum.now (pads_of (take _ c.args._seeds.now) c.args._r.0 n) refl (pads_long (take _ c.args._seeds.now) c.args._r.0 n))
