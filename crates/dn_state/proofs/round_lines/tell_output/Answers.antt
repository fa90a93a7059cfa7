use Rattle.std.proofs.Common.{◌≡◌, ◌+◌, ◌/◌, ◌++◌, length, ap, ◌∙◌, arith}
use Rattle.std.proofs.lemmas.List.FromFn.{length-map-range_with_len}
use Rattle.dn_bits.specs.Bits.{bytes_of, byte_of}
use Rattle.dn_state.proofs.round_lines.tell_output.Goals as goal

pub tell_slots-requires : goal.tell_slots-requires
tell_slots-requires c =
    let out = c.args.output.now in
    let spelled = c.deref-2.ensures.value ∙ c.in_ok-write_bytes.ensures.ok ∙ ap (λ xs. xs ++ bytes_of out) c.new-bytes.ensures.items in
    let long : length c.deref-2.result.now ≡ (length out + 7) / 8 = ap length spelled ∙ length-map-range_with_len (byte_of out) 0 ((length out + 7) / 8) in
    omega (arith, long, c.requires)
