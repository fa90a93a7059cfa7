-- The fields that lines are made of.
use Rattle.std.specs.Prelude.{◌≡◌, ℕ, ◌<◌, ◌≤◌, nat_le, ◌==◌, ◌&&◌, List, [], ◌∷◌, length, slice_index, Option, Some, None, if◌then◌else◌}
use Rattle.std.specs.Fmt.{decimal}
use Rattle.std.specs.Result.{result_ok}
use Rattle.std.specs.Str.{bytes_eq}
use Rattle.std.specs.Str.Parse.{digits_value}
use Rattle.hex.specs.Hex.{encode_lower, decode_of, IsBytes}
use Rattle.dn_wire.specs.declared.ids.ClientId.{ClientId}
use Rattle.dn_wire.specs.declared.ids.ServerId.{ServerId}
use Rattle.dn_wire.specs.declared.ids.SlotId.{SlotId}
use Rattle.dn_wire.specs.declared.ids.Round.{Round}
use Rattle.dn_wire.specs.declared.ids.Member.{Member}
use Rattle.dn_wire.specs.declared.ids.Member.TheVariants.{Client, Server}
use Rattle.dn_lines.specs.Field.{Field, ◌>>=◌, made, seen}

-- a number from low to high in decimal digits, with no zero in front
abbrev pub number_in : ℕ → ℕ → List ℕ → Option ℕ
number_in low high text =
    let value = digits_value 10 text in
    if bytes_eq text (decimal value) && (nat_le low value && nat_le value high) then Some value else None

-- there are characters, and no zero stands in front of others
pub record IsProper (text : List ℕ) : Type 0 where
  pub some : 0 < length text
  pub no_zero : slice_index text 0 ≡ 48 → length text ≡ 1

abbrev pub between : ℕ → ℕ → Field ℕ
between low high = record { spell = decimal; read = number_in low high; Fits = λ n. (low ≤ n) × (n ≤ high) }

-- any number of four bytes
abbrev pub number : Field ℕ
number = between 0 4294967295

-- any number of eight bytes
abbrev pub long_number : Field ℕ
long_number = between 0 18446744073709551615

-- not one of the letters `A` to `F`
abbrev pub IsLower : ℕ → Type 0
IsLower b = 65 ≤ b → b ≤ 70 → ⊥

-- bytes in lower-case hex, two digits each, and `-` for none
abbrev pub hex_text : List ℕ → List ℕ
hex_text [] = 45 ∷ []
hex_text (b ∷ bytes) = encode_lower (b ∷ bytes)

-- bytes that are spelled by this text
abbrev pub if_spelled : List ℕ → List ℕ → Option (List ℕ)
if_spelled text bytes = if bytes_eq text (hex_text bytes) then Some bytes else None

unfoldable pub bytes_in : List ℕ → Option (List ℕ)
bytes_in text = if bytes_eq text (45 ∷ []) then Some [] else (result_ok (decode_of text) >>= if_spelled text)

abbrev pub bytes : Field (List ℕ)
bytes = record { spell = hex_text; read = bytes_in; Fits = IsBytes }

-- a field behind a letter
abbrev pub read_behind : {A : Type 0} → ℕ → (List ℕ → Option A) → List ℕ → Option A
read_behind c read [] = None
read_behind c read (b ∷ text) = if b == c then read text else None

abbrev pub behind : {A : Type 0} → ℕ → Field A → Field A
behind c f = record { spell = λ x. c ∷ f.spell x; read = read_behind c f.read; Fits = f.Fits }

-- `c` and the number of a client
abbrev pub client : Field ClientId
client = seen (λ n. record { 0 = n }) (λ i. i.0) (behind 99 number)

-- `s` and the number of a server
abbrev pub server : Field ServerId
server = seen (λ n. record { 0 = n }) (λ j. j.0) (behind 115 number)

abbrev pub slot : Field SlotId
slot = seen (λ n. record { 0 = n }) (λ s. s.0) number

abbrev pub round : Field Round
round = seen (λ n. record { 0 = n }) (λ r. r.0) long_number

abbrev pub member_text : Member → List ℕ
member_text (Client i) = client.spell i
member_text (Server j) = server.spell j

abbrev pub IsMember : Member → Type 0
IsMember (Client i) = client.Fits i
IsMember (Server j) = server.Fits j

-- a client or a server, told by the letter in front
unfoldable pub member_in : List ℕ → Option Member
member_in [] = None
member_in (b ∷ text) =
    if b == 99 then made (λ n. Client (record { 0 = n })) (number.read text)
    else (if b == 115 then made (λ n. Server (record { 0 = n })) (number.read text) else None)

abbrev pub member : Field Member
member = record { spell = member_text; read = member_in; Fits = IsMember }

-- the first of some values whose text it is
abbrev pub first_spelled : {A : Type 0} → (A → List ℕ) → List A → List ℕ → Option A
first_spelled spell [] text = None
first_spelled spell (x ∷ xs) text = if bytes_eq text (spell x) then Some x else first_spelled spell xs text

-- one of these values, each by its word
abbrev pub one_of : {A : Type 0} → (A → List ℕ) → List A → Field A
one_of spell xs = record { spell = spell; read = first_spelled spell xs; Fits = λ x. Unit {0} }
