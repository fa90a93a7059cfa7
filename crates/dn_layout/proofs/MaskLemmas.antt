-- The mask, byte by byte.
use Rattle.std.proofs.Common.{◌≡◌, ◌≢◌, ℕ, ◌+◌, ◌/◌, ◌%◌, ◌^◌, ◌<◌, ◌≤◌, List, length, get_or, ap, sym, ◌∙◌, arith}
use Rattle.std.specs.Prelude.{bit_xor}
use Rattle.std.specs.Int.Bits.{xor_self, xor_assoc, xor_zero_r}
use Rattle.std.proofs.lemmas.List.FromFn.{length-map-range_with_len, get_or-map-range_with_len, fill_by_all}
use Rattle.rand_chacha.specs.ChaCha.{ChaCha, word_at, key_of}
use Rattle.dn_pads.specs.Pads.{keystream_byte}
use Rattle.dn_layout.specs.Block.{masked}

-- the bytes below m are masked and the others as they were, and the generator stands at the next word
pub record MaskedBelow (key : List ℕ) (m : ℕ) (old new : List ℕ) (word : ℕ) (rng : ChaCha) : Type 0 where
  pub done : (j : ℕ) → j < m → get_or new j 0 ≡ bit_xor (get_or old j 0) (keystream_byte key 0 j)
  pub kept : (j : ℕ) → m ≤ j → get_or new j 0 ≡ get_or old j 0
  pub stands : rng ≡ record { key = key_of key; stream = 0; word_pos = (m + 3) / 4 % 2 ^ 68 }
  pub word_is : m % 4 ≢ 0 → word ≡ word_at 10 (key_of key) 0 (m / 4)
  pub same : length new ≡ length old

pub length-masked : (key bytes : List ℕ) → length (masked key bytes) ≡ length bytes
unfolding masked
length-masked key bytes = length-map-range_with_len (λ m. bit_xor (get_or bytes m 0) (keystream_byte key 0 m)) 0 (length bytes)

pub get_or-masked : (key bytes : List ℕ) (m : ℕ) → m < length bytes → get_or (masked key bytes) m 0 ≡ bit_xor (get_or bytes m 0) (keystream_byte key 0 m)
unfolding masked
get_or-masked key bytes m lt = get_or-map-range_with_len (λ j. bit_xor (get_or bytes j 0) (keystream_byte key 0 j)) 0 (length bytes) m m 0 lt (omega arith)

-- bytes that are masked place by place
pub masked_whole : (key old new : List ℕ) → length new ≡ length old
    → ((j : ℕ) → j < length old → get_or new j 0 ≡ bit_xor (get_or old j 0) (keystream_byte key 0 j)) → new ≡ masked key old
unfolding masked
masked_whole key old new same h = fill_by_all (λ m. bit_xor (get_or old m 0) (keystream_byte key 0 m)) new (length old) 0 same h

xor_twice : (a k : ℕ) → bit_xor (bit_xor a k) k ≡ a
xor_twice a k = xor_assoc a k k ∙ ap (bit_xor a) (xor_self k) ∙ xor_zero_r a

-- twice is not at all
pub masked_twice : (key bytes : List ℕ) → masked key (masked key bytes) ≡ bytes
masked_twice key bytes =
    sym (masked_whole key (masked key bytes) bytes (sym (length-masked key bytes))
    (λ j lt. let low : j < length bytes = omega (arith, length-masked key bytes) in
    sym (ap (λ b. bit_xor b (keystream_byte key 0 j)) (get_or-masked key bytes j low) ∙ xor_twice (get_or bytes j 0) (keystream_byte key 0 j))))
