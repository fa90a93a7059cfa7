-- Words of 64 bits, the highest bit of a word first.
use Rattle.std.specs.Prelude.{◌≡◌, ℕ, ◌+◌, ◌-◌, ◌*◌, ◌/◌, ◌%◌, ◌^◌, ◌≤◌, ◌==◌, Bool, false, List, map, length, slice_index}
use Rattle.std.specs.List.{range_with_len}
use Rattle.std.specs.Int.{bit_at}

-- bit k of a list of words where this word stands at place k / 64
abbrev pub word_bit : ℕ → ℕ → Bool
word_bit word k = bit_at word (63 - k % 64) == 1

-- bit k of a list of words
abbrev pub bit_of_words : List ℕ → ℕ → Bool
bit_of_words words k = word_bit (slice_index words (k / 64)) k

-- the first n bits of a list of words
abbrev pub bits_of_words : List ℕ → ℕ → List Bool
bits_of_words words n = map (bit_of_words words) (range_with_len 0 n)

-- as many words as n bits take, with zeros after the last bit
pub record Holds (words : List ℕ) (n : ℕ) : Type 0 where
  pub size : length words ≡ (n + 63) / 64
  pub rest : (k : ℕ) → n ≤ k → bit_of_words words k ≡ false

-- byte m of a list of words, the highest byte of a word first
abbrev pub byte_of_words : List ℕ → ℕ → ℕ
byte_of_words words m = slice_index words (m / 8) / 2 ^ (56 - 8 * (m % 8)) % 256
