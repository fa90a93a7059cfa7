use Rattle.std.proofs.Common.{◌≡◌, ◌*◌}
use Rattle.rand_chacha.specs.ChaCha.{ChaCha, key_of}
use Rattle.dn_pads.specs.Pads.{keystream_bit}
use Rattle.dn_pads.proofs.PadLemmas.{added}
use Rattle.dn_pads.proofs.pads.add_pad.Given as goal

abbrev pub invariant-loop-place : goal.invariant-loop-place
invariant-loop-place l =
    let rng : ChaCha = record { key = key_of l.seed; stream = l.fn.r.0; word_pos = 2 * l.place } in
    (l.rng ≡ rng) × (l.bits ≡ added (keystream_bit l.seed l.fn.r.0) (64 * l.place) l.initial.bits)
