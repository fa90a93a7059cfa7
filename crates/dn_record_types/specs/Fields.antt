-- The fields that formats are made of.
use Rattle.std.specs.Prelude.{◌≡◌, ℕ, ◌+◌, ◌-◌, ◌*◌, ◌/◌, ◌%◌, ◌^◌, ◌<◌, ◌≤◌, Bool, nat_lt, ◌==◌, ◌||◌, List, [], ◌∷◌, ◌++◌, length, slice_index, Ok, Err, if◌then◌else◌}
use Rattle.std.specs.Int.{Width, w16, w32, w64, to_be_bytes}
use Rattle.dn_bits.specs.Bits.{first_bits, bytes_of}
use Rattle.dn_wire.specs.Cursor.{Cursor}
use Rattle.dn_wire.specs.Fields.{byte_at, number_at, bytes_at, inner_at, limited_at}
use Rattle.dn_wire.specs.declared.limits.TheConstants.{MAX_BITS}
use Rattle.dn_wire.specs.declared.ids.ClientId.{ClientId}
use Rattle.dn_wire.specs.declared.ids.ServerId.{ServerId}
use Rattle.dn_wire.specs.declared.ids.SlotId.{SlotId}
use Rattle.dn_wire.specs.declared.ids.Round.{Round}
use Rattle.dn_record_types.specs.declared.fault.RecordFault.TheVariants.{Shape}
use Rattle.dn_record_types.specs.Part.{Part, Read, ◌>>=◌, field, seen}

unfoldable pub read_byte : Cursor → Read ℕ
read_byte c = field (byte_at c)

unfoldable pub read_number : Width → Cursor → Read ℕ
read_number w c = field (number_at w c)

unfoldable pub read_limited : ℕ → Cursor → Read ℕ
read_limited limit c = field (limited_at limit c)

unfoldable pub read_bytes : ℕ → Cursor → Read (List ℕ)
read_bytes n c = field (bytes_at n c)

unfoldable pub read_inner : ℕ → Cursor → Read Cursor
read_inner n c = field (inner_at n c)

-- a number's bytes, the high byte first
unfoldable pub spell_number : Width → ℕ → List ℕ
spell_number w n = to_be_bytes w n

abbrev pub byte : Part ℕ
byte = record { spell = λ n. n ∷ []; read = read_byte; Fits = λ n. n < 256 }

abbrev pub short : Part ℕ
short = record { spell = spell_number w16; read = read_number w16; Fits = λ n. n < 2 ^ 16 }

abbrev pub word : Part ℕ
word = record { spell = spell_number w32; read = read_number w32; Fits = λ n. n < 2 ^ 32 }

abbrev pub long : Part ℕ
long = record { spell = spell_number w64; read = read_number w64; Fits = λ n. n < 2 ^ 64 }

-- a number of four bytes that may not pass a limit
abbrev pub up_to : ℕ → Part ℕ
up_to limit = record { spell = spell_number w32; read = read_limited limit; Fits = λ n. n ≤ limit }

-- a byte that has one of the values 1 to n
unfoldable pub read_few : ℕ → Cursor → Read ℕ
read_few n c = read_byte c >>= λ b. if b.0 == 0 || nat_lt n b.0 then Err (Shape c.at) else Ok b

abbrev pub few : ℕ → Part ℕ
few n = record { spell = λ b. b ∷ []; read = read_few n; Fits = λ b. (1 ≤ b) × (b ≤ n) }

-- a byte that is 1 for yes and 0 for no
unfoldable pub read_flag : Cursor → Read Bool
read_flag c = read_byte c >>= λ b. if nat_lt 1 b.0 then Err (Shape c.at) else Ok (b.0 == 1, b.1)

abbrev pub flag : Part Bool
flag = record { spell = λ yes. (if yes then 1 else 0) ∷ []; read = read_flag; Fits = λ yes. Unit {0} }

-- n bytes
abbrev pub exactly : ℕ → Part (List ℕ)
exactly n = record { spell = λ bytes. bytes; read = read_bytes n; Fits = λ bytes. length bytes ≡ n }

-- bytes behind their number
abbrev pub sized : Part ℕ → Part (List ℕ)
sized count = record {
  spell = λ bytes. count.spell (length bytes) ++ bytes;
  read = λ c. count.read c >>= λ n. read_bytes n.0 n.1;
  Fits = λ bytes. count.Fits (length bytes);
}

-- whether the bits of a byte string after the first n are zeros, where it has no byte too many
abbrev pub ends_in_zeros : List ℕ → ℕ → Bool
ends_in_zeros bytes n = slice_index bytes (length bytes - 1) % 2 ^ (8 * length bytes - n) == 0

-- a bit string: the number of its bits and its bytes, whose bits after the last are zeros
unfoldable pub read_bits : Cursor → Read (List Bool)
read_bits c =
    read_limited MAX_BITS c >>= λ n. read_bytes ((n.0 + 7) / 8) n.1
    >>= λ bytes. if ends_in_zeros bytes.0 n.0 then Ok (first_bits bytes.0 n.0, bytes.1) else Err (Shape (bytes.1.at - 1))

abbrev pub bits : Part (List Bool)
bits = record { spell = λ b. spell_number w32 (length b) ++ bytes_of b; read = read_bits; Fits = λ b. length b ≤ MAX_BITS }

abbrev pub round : Part Round
round = seen (λ n. record { 0 = n }) (λ r. r.0) long

abbrev pub client_field : Part ClientId
client_field = seen (λ n. record { 0 = n }) (λ i. i.0) word

abbrev pub server_field : Part ServerId
server_field = seen (λ n. record { 0 = n }) (λ j. j.0) word

abbrev pub slot_field : Part SlotId
slot_field = seen (λ n. record { 0 = n }) (λ s. s.0) word

abbrev pub digest : Part (List ℕ)
digest = exactly 32
