use Rattle.std.proofs.Common.{◌∙◌, length, take, sym, ap, refl, get_or}
use Rattle.dn_bits.specs.Bits.{xor_bits}
use Rattle.dn_bits.proofs.SumLemmas.{xor_zeros}
use Rattle.std.proofs.lemmas.List.Elements.{All-take}
use Rattle.dn_combine.proofs.Sums.{Long, sum_all-more, length-more}
use Rattle.dn_combine.proofs.combining.add_all.Goals as goal

pub loop-part-init : goal.loop-part-init
loop-part-init c = (sym (xor_zeros c.args.sum.now (length c.args.sum.now) refl), refl)

pub loop-part-preserved : goal.loop-part-preserved
loop-part-preserved c =
    let n = length c.args.sum.now in
    let i = c.loop-part.part-index in
    let value = c.xor_into.ensures
    ∙ ap (xor_bits c.loop-part.sum) c.part-item.is
    ∙ ap (λ x. xor_bits x (get_or c.args.parts.now i c.part-item.result)) c.loop-part.invariant.0
    ∙ sum_all-more n c.args.sum.now c.args.parts.now i c.part-item.result refl c.requires c.loop-part-test.true in
    (value, ap length value ∙ length-more n c.args.sum.now (take _ c.args.parts.now) refl (All-take (Long n) _ c.args.parts.now c.requires))
