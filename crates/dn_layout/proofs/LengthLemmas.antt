-- How long blocks are, and how many slots a layout has.
use Rattle.std.proofs.Common.{◌≡◌, ℕ, ◌+◌, ◌-◌, ◌≤◌, Bool, List, ◌++◌, length, replicate, refl, ◌∙◌, arith, length-append}
use Rattle.std.specs.Prelude.{slice_index}
use Rattle.std.specs.Int.{w16, to_be_bytes}
use Rattle.std.proofs.lemmas.List.{length-replicate, length-map}
use Rattle.std.proofs.lemmas.List.FromFn.{length-range_with_len}
use Rattle.dn_bits.specs.Bits.{below, bit}
use Rattle.dn_hash.specs.Digests.{mask_key_of, block_check_of}
use Rattle.dn_hash.proofs.DigestLemmas.{length-block_check_of}
use Rattle.dn_layout.specs.Block.{masked, rest_of, block_of}
use Rattle.dn_layout.specs.Layout.{request_bytes, slot_bytes, want_of, wants_of, next_of}
use Rattle.dn_layout.proofs.MaskLemmas.{length-masked}
use Rattle.dn_layout.proofs.LayoutLemmas.{length-fitted}

length-rest_of : (next_len size : ℕ) (text : List ℕ) → 28 + length text ≤ size → 24 + length (rest_of next_len text size) ≡ size
unfolding rest_of
length-rest_of next_len size text room =
    let zeros : List ℕ = replicate (size - 28 - length text) 0 in
    let two : length (to_be_bytes w16 next_len ++ to_be_bytes w16 (length text)) ≡ 4 = refl in
    let front = length-append (to_be_bytes w16 next_len ++ to_be_bytes w16 (length text)) text in
    let whole = length-append (to_be_bytes w16 next_len ++ to_be_bytes w16 (length text) ++ text) zeros in
    omega (arith, length-replicate {A = ℕ} (size - 28 - length text) 0)

pub length-block_of : (text mask_seed : List ℕ) (next_len size : ℕ) → length mask_seed ≡ 16 → 28 + length text ≤ size → length (block_of text next_len mask_seed size) ≡ size
unfolding block_of
length-block_of text mask_seed next_len size long room =
    let rest = rest_of next_len text size in
    let whole = length-append mask_seed (masked (mask_key_of mask_seed) (block_check_of rest ++ rest)) in
    let inner = length-append (block_check_of rest) rest in
    omega (arith, length-masked (mask_key_of mask_seed) (block_check_of rest ++ rest), length-block_check_of rest, length-rest_of next_len size text room, long)

pub length-next_of : (lengths : List ℕ) (out : List Bool) → length (next_of lengths out) ≡ length lengths
unfolding next_of
length-next_of lengths out =
    length-fitted (request_bytes (length lengths)) (wants_of lengths out)
    ∙ length-map (below (length lengths)) (λ s. want_of (slice_index lengths s) (bit out s) (slot_bytes lengths out s)) ∙ length-range_with_len 0 (length lengths)
