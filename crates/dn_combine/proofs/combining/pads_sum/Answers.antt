use Rattle.std.proofs.Common.{◌∙◌, length, ap}
use Rattle.dn_bits.specs.Bits.{sum_bits, xor_bits}
use Rattle.dn_bits.proofs.WordLemmas.{length-zeros}
use Rattle.dn_bits.proofs.SumLemmas.{zeros_xor}
use Rattle.dn_combine.specs.Parts.{pads_of}
use Rattle.dn_combine.proofs.Sums.{length-sum_all, pads_long}
use Rattle.dn_combine.proofs.combining.pads_sum.Goals as goal

pub returns : goal.returns
returns c =
    let n = c.args.n in
    let r = c.args.r.0 in
    let seeds = c.args.seeds.now in
    c.add_pads.ensures
    ∙ ap (λ k. xor_bits c.in_ok-sum.sum (sum_bits k (pads_of seeds r k))) (ap length c.in_ok-sum.ensures ∙ length-zeros n)
    ∙ ap (λ x. xor_bits x (sum_bits n (pads_of seeds r n))) c.in_ok-sum.ensures
    ∙ zeros_xor (sum_bits n (pads_of seeds r n)) n (length-sum_all n (pads_of seeds r n) (pads_long seeds r n))
