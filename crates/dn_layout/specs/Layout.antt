-- The slots of a round: their places, and their lengths after its output.
use Rattle.std.specs.Prelude.{ℕ, ◌+◌, ◌*◌, ◌/◌, ◌≤◌, ◌==◌, nat_le, Bool, List, [], ◌∷◌, map, length, take, drop, sum, slice_index, Option, Some, None, All, IsTrue, if◌then◌else◌}
use Rattle.dn_wire.specs.declared.limits.TheConstants.{MAX_BITS, MAX_CLIENTS, MIN_SLOT_BYTES}
use Rattle.dn_bits.specs.Bits.{below, bit, bytes_of}
use Rattle.dn_layout.specs.Block.{is_length, is_zeros, read_of}

-- the bytes of the request bits of n slots
abbrev pub request_bytes : ℕ → ℕ
request_bytes n = (n + 7) / 8

-- how many bits a round with these slots has: the request bits up to a whole byte, and the open slots' blocks
abbrev pub bits_of : List ℕ → ℕ
bits_of lengths = 8 * (request_bytes (length lengths) + sum lengths)

-- the first byte of slot s
abbrev pub start_of : List ℕ → ℕ → ℕ
start_of lengths s = request_bytes (length lengths) + sum (take s lengths)

-- the first place of slot s and the place past its last; nothing where it is closed or isn't there
abbrev pub range_of : List ℕ → ℕ → Option (ℕ × ℕ)
range_of lengths s =
    if slice_index lengths s == 0 then None
    else Some (8 * start_of lengths s, 8 * (start_of lengths s + slice_index lengths s))

-- the bytes of slot s in an output
abbrev pub slot_bytes : List ℕ → List Bool → ℕ → List ℕ
slot_bytes lengths out s = take (slice_index lengths s) (drop (start_of lengths s) (bytes_of out))

-- what an open slot wants whose block is read so
abbrev pub want_open : ℕ → List ℕ → Option (ℕ × List ℕ) → ℕ
want_open len block (Some (next_len, text)) = next_len
want_open len block None = if is_zeros block then 0 else len

-- what a slot of this length wants, from its request bit and its block
unfoldable pub want_of : ℕ → Bool → List ℕ → ℕ
want_of len requested block =
    if len == 0 then (if requested then MIN_SLOT_BYTES else 0) else want_open len block (read_of block)

-- what each slot wants after an output
abbrev pub wants_of : List ℕ → List Bool → List ℕ
wants_of lengths out = map (λ s. want_of (slice_index lengths s) (bit out s) (slot_bytes lengths out s)) (below (length lengths))

-- what a slot gets that wants so many bytes, in a round that has `total` bytes without it: what it wants where the round then has at
-- most the bits that a round may have, and else nothing
abbrev pub given_of : ℕ → ℕ → ℕ
given_of total want = if nat_le (8 * (total + want)) MAX_BITS then want else 0

-- what the slots get, in order, in a round that has `total` bytes without them
abbrev pub fitted : ℕ → List ℕ → List ℕ
fitted total [] = []
fitted total (want ∷ wants) = given_of total want ∷ fitted (total + given_of total want) wants

-- the lengths after an output
unfoldable pub next_of : List ℕ → List Bool → List ℕ
next_of lengths out = fitted (request_bytes (length lengths)) (wants_of lengths out)

-- the lengths of a layout: of at least one slot and at most as many as a group has clients, each closed or as long as an open slot may
-- be, and with at most the bits of a round in all
pub record IsLayout (lengths : List ℕ) : Type 0 where
  pub some : 1 ≤ length lengths
  pub few : length lengths ≤ MAX_CLIENTS
  pub sizes : All (λ len. IsTrue (is_length len)) lengths
  pub fits : bits_of lengths ≤ MAX_BITS
