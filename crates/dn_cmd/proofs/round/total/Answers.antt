use Rattle.std.proofs.Common.{◌≡◌, ◌∙◌, ap, sym, length, map, arith}
use Rattle.std.proofs.lemmas.List.FromFn.{length-map-range_with_len}
use Rattle.dn_bits.specs.Bits.{xor_bits, sum_bits, below, zeros}
use Rattle.dn_bits.proofs.SumLemmas.{length-sum, sum-push, below_more}
use Rattle.dn_cmd.specs.Round.{server}
use Rattle.dn_cmd.proofs.RoundLemmas.{length-server, at_index, sum_of_servers}
use Rattle.dn_cmd.proofs.round.total.Goals as goal

pub loop-part-init : goal.loop-part-init
loop-part-init c = c.in_ok-sum.ensures ∙ ap zeros c.bits.ensures

pub xor_into-requires : goal.xor_into-requires
xor_into-requires c =
    let p = c.args.script.now in
    let count = ap length c.requires.parts ∙ length-map-range_with_len (server p) 0 p.servers in
    let same = at_index (server p) p.servers c.args.parts.now c.loop-part.part-index c.part-item.result c.requires.parts c.part-item.is (omega (arith, count)) in
    ap length c.loop-part.invariant ∙ length-sum p.bits (server p) (length-server p c.requires.legal) (below c.loop-part.part-index)
    ∙ sym (length-server p c.requires.legal c.loop-part.part-index) ∙ ap length (sym same)

pub loop-part-preserved : goal.loop-part-preserved
loop-part-preserved c =
    let p = c.args.script.now in
    let count = ap length c.requires.parts ∙ length-map-range_with_len (server p) 0 p.servers in
    let same = at_index (server p) p.servers c.args.parts.now c.loop-part.part-index c.part-item.result c.requires.parts c.part-item.is (omega (arith, count)) in
    c.xor_into.ensures ∙ ap (λ b. xor_bits b c.part-item.result) c.loop-part.invariant
    ∙ ap (xor_bits (sum_bits p.bits (map (server p) (below c.loop-part.part-index)))) same
    ∙ sym (sum-push p.bits (server p) (length-server p c.requires.legal) (below c.loop-part.part-index) c.loop-part.part-index)
    ∙ ap (λ js. sum_bits p.bits (map (server p) js)) (sym (below_more c.loop-part.part-index))

pub returns : goal.returns
returns c =
    let p = c.args.script.now in
    let count = ap length c.requires.parts ∙ length-map-range_with_len (server p) 0 p.servers in
    let e : c.loop-part.part-index ≡ p.servers = omega (arith, count) in
    c.loop-part.invariant ∙ ap (λ n. sum_bits p.bits (map (server p) (below n))) e ∙ sum_of_servers p c.requires.legal
