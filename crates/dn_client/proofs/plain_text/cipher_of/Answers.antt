use Rattle.std.proofs.Common.{◌≡◌, length, take, refl, sym, ap, ◌∙◌, arith}
use Rattle.std.specs.Prelude.{map}
use Rattle.std.proofs.Math.Seq.{take-length}
use Rattle.dn_bits.specs.Bits.{xor_bits, sum_bits}
use Rattle.dn_pads.specs.Pads.{pad_of}
use Rattle.dn_client.specs.Plain.{cipher_of}
use Rattle.dn_client.proofs.PadSums.{no_pad, pad_after, length-added}
use Rattle.dn_client.proofs.plain_text.cipher_of.Goals as goal

pub loop-seed-init : goal.loop-seed-init
loop-seed-init c = c.in_ok-cipher.ensures ∙ sym (no_pad c.args.r.0 (length c.args.plain.now) c.args.plain.now refl)

pub loop-seed-preserved : goal.loop-seed-preserved
loop-seed-preserved c =
    let n = length c.args.plain.now in
    let so_far = take c.loop-seed.seed-index c.args.seeds.now in
    let long : length c.loop-seed.cipher ≡ n = ap length c.loop-seed.invariant ∙ length-added c.args.r.0 n c.args.plain.now so_far refl in
    pad_after c.args.r.0 n c.args.plain.now c.args.seeds.now c.loop-seed.seed-index _ c.loop-seed.cipher c.add_pad.new.bits c.loop-seed-test.true c.loop-seed.invariant long c.add_pad.ensures

pub returns : goal.returns
unfolding cipher_of
returns c =
    let n = length c.args.plain.now in
    let at_end : c.loop-seed.seed-index ≡ length c.args.seeds.now = omega arith in
    c.loop-seed.invariant ∙ ap (λ l. xor_bits c.args.plain.now (sum_bits n (map (λ s. pad_of s c.args.r.0 n) l))) (ap (λ k. take k c.args.seeds.now) at_end ∙ take-length c.args.seeds.now)
