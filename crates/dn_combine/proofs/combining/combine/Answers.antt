use Rattle.std.proofs.Common.{◌∙◌, length, ap}
use Rattle.dn_bits.specs.Bits.{sum_bits, xor_bits}
use Rattle.dn_bits.proofs.WordLemmas.{length-zeros}
use Rattle.dn_bits.proofs.SumLemmas.{zeros_xor}
use Rattle.dn_combine.proofs.Sums.{length-sum_all}
use Rattle.dn_combine.proofs.combining.combine.Goals as goal

pub returns : goal.returns
returns c =
    let n = c.args.n in
    let long = ap length c.in_ok-sum.ensures ∙ length-zeros n in
    c.add_all.ensures.value
    ∙ ap (λ k. xor_bits c.in_ok-sum.sum (sum_bits k c.args.parts.now)) long
    ∙ ap (λ x. xor_bits x (sum_bits n c.args.parts.now)) c.in_ok-sum.ensures
    ∙ zeros_xor (sum_bits n c.args.parts.now) n (length-sum_all n c.args.parts.now c.requires)
