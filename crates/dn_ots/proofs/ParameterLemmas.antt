-- Facts of the four parameter sets, each by the row.
use Rattle.std.proofs.Common.{◌≡◌, ℕ, zero, suc, ◌+◌, ◌-◌, ◌*◌, ◌/◌, ◌%◌, ◌^◌, ◌<◌, ◌≤◌, refl, arith, lit<, lit≤}
use Rattle.dn_ots.specs.Parameters.{IsCode, width, last_step, chain_count, shift, ots_length}

-- what holds at each of the four codes
pub by_code : (P : ℕ → Type 0) → P 1 → P 2 → P 3 → P 4 → (code : ℕ) → IsCode code → P code
by_code P a b c d zero h = absurd (omega arith)
by_code P a b c d (suc zero) h = a
by_code P a b c d (suc (suc zero)) h = b
by_code P a b c d (suc (suc (suc zero))) h = c
by_code P a b c d (suc (suc (suc (suc zero)))) h = d
by_code P a b c d (suc (suc (suc (suc (suc n))))) h = absurd (omega arith)

-- what is known of a set, as linear facts
pub record Limits (code : ℕ) : Type 0 where
  pub positive : 0 < width code
  pub narrow : width code ≤ 8
  pub chains : chain_count code ≤ 265
  pub shifted : shift code < 16
  pub size : ots_length code ≡ 36 + 32 * chain_count code
  pub length_small : ots_length code < 2 ^ 32

pub limits : (code : ℕ) → IsCode code → Limits code
unfolding width chain_count shift ots_length
limits = by_code Limits
    (record { positive = lit< tt; narrow = lit≤ tt; chains = lit≤ tt; shifted = lit< tt; size = refl; length_small = lit< tt })
    (record { positive = lit< tt; narrow = lit≤ tt; chains = lit≤ tt; shifted = lit< tt; size = refl; length_small = lit< tt })
    (record { positive = lit< tt; narrow = lit≤ tt; chains = lit≤ tt; shifted = lit< tt; size = refl; length_small = lit< tt })
    (record { positive = lit< tt; narrow = lit≤ tt; chains = lit≤ tt; shifted = lit< tt; size = refl; length_small = lit< tt })

-- the shift of a field stays within its byte
pub field_within : (code : ℕ) → IsCode code → (i : ℕ) → width code * (i % (8 / width code)) + width code ≤ 8
unfolding width
field_within = by_code (λ code. (i : ℕ) → width code * (i % (8 / width code)) + width code ≤ 8)
    (λ i. omega arith) (λ i. omega arith) (λ i. omega arith) (λ i. omega arith)

-- a byte has a whole number of fields
pub fields_in_byte : (code : ℕ) → IsCode code → 0 < 8 / width code
unfolding width
fields_in_byte = by_code (λ code. 0 < 8 / width code) (lit< tt) (lit< tt) (lit< tt) (lit< tt)

-- the chains have their fields in a hash and its checksum
pub chain_fields : (code : ℕ) → IsCode code → (i : ℕ) → i < chain_count code → i * width code < 8 * 34
unfolding width chain_count
chain_fields = by_code (λ code. (i : ℕ) → i < chain_count code → i * width code < 8 * 34)
    (λ i h. omega arith) (λ i h. omega arith) (λ i h. omega arith) (λ i h. omega arith)

-- and the first of them in the hash
pub hash_fields : (code : ℕ) → IsCode code → (i : ℕ) → i < 256 / width code → i * width code < 8 * 32
unfolding width
hash_fields = by_code (λ code. (i : ℕ) → i < 256 / width code → i * width code < 8 * 32)
    (λ i h. omega arith) (λ i h. omega arith) (λ i h. omega arith) (λ i h. omega arith)

-- the greatest digit is a byte of ones
pub last_step-byte : (code : ℕ) → IsCode code → 255 / 2 ^ (8 - width code) ≡ last_step code
unfolding width last_step
last_step-byte = by_code (λ code. 255 / 2 ^ (8 - width code) ≡ last_step code) refl refl refl refl

-- and fits a byte
pub last_step-small : (code : ℕ) → IsCode code → last_step code < 256
unfolding width last_step
last_step-small = by_code (λ code. last_step code < 256) (lit< tt) (lit< tt) (lit< tt) (lit< tt)
