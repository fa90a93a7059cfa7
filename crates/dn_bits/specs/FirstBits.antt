-- Words filled from the front of bytes.
use Rattle.std.specs.Prelude.{◌≡◌, ℕ, ◌+◌, ◌/◌, nat_lt, false, List, length, if◌then◌else◌}
use Rattle.dn_bits.specs.Bits.{bit_of_bytes}
use Rattle.dn_bits.specs.Words.{bit_of_words}

-- as many words as n bits take: the first n bits of the bytes, and zeros after them
pub record AreFirstBits (words bytes : List ℕ) (n : ℕ) : Type 0 where
  pub size : length words ≡ (n + 63) / 64
  pub each : (k : ℕ) → bit_of_words words k ≡ (if nat_lt k n then bit_of_bytes bytes k else false)
