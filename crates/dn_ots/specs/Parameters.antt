-- The parameter sets of LM-OTS with SHA-256 and 32 bytes, by type code (RFC 8554 section 4.1).
use Rattle.std.specs.Prelude.{◌≡◌, ℕ, ◌+◌, ◌-◌, ◌*◌, ◌^◌, ◌≤◌, [], ◌∷◌, slice_index}

-- the code of one of the four sets
abbrev pub IsCode : ℕ → Type 0
IsCode code = (1 ≤ code) × (code ≤ 4)

-- w: the bits of a digit
unfoldable pub width : ℕ → ℕ
width code = slice_index (0 ∷ 1 ∷ 2 ∷ 4 ∷ 8 ∷ []) code

-- the greatest digit, which is the number of a chain's last value: 2^w - 1
unfoldable pub last_step : ℕ → ℕ
last_step code = 2 ^ width code - 1

-- p: the number of chains
unfoldable pub chain_count : ℕ → ℕ
chain_count code = slice_index (0 ∷ 265 ∷ 133 ∷ 67 ∷ 34 ∷ []) code

-- ls: the places by which the checksum is shifted
unfoldable pub shift : ℕ → ℕ
shift code = slice_index (0 ∷ 7 ∷ 6 ∷ 4 ∷ 0 ∷ []) code

-- the bytes of a signature: the type code, the randomizer and a value of each chain (section 4.5)
unfoldable pub ots_length : ℕ → ℕ
ots_length code = 4 + 32 * (chain_count code + 1)

-- the row of the table with this code
pub record IsRow (code w p ls sig_len : ℕ) : Type 0 where
  pub known : IsCode code
  pub width_is : w ≡ width code
  pub count_is : p ≡ chain_count code
  pub shift_is : ls ≡ shift code
  pub length_is : sig_len ≡ ots_length code
