-- Fields whose values have limits: the value that a field spells, or what is wrong with it. The tests of a field stand in the order
-- in which they are made, each with what it finds wrong; the first that holds is told.
use Rattle.std.specs.Prelude.{ℕ, nat_lt, nat_le, ◌==◌, ◌&&◌, ◌||◌, not, Bool, false, List, [], ◌∷◌, length, is_none, unwrap_or, Result, Ok, Err, if◌then◌else◌}
use Rattle.std.specs.Fmt.{decimal}
use Rattle.std.specs.Str.{all_ascii_digits}
use Rattle.std.specs.Str.Parse.{digits_value}
use Rattle.dn_io.specs.declared.cause.Cause.{Cause}
use Rattle.dn_io.specs.declared.cause.Cause.TheVariants as causes
use Rattle.dn_lines.specs.Fields.{hex_text, bytes_in}
use Rattle.dn_wire.specs.declared.ids.ClientId.{ClientId}
use Rattle.dn_wire.specs.declared.ids.ServerId.{ServerId}
use Rattle.dn_wire.specs.declared.ids.Member.{Member}
use Rattle.dn_wire.specs.declared.ids.Member.TheVariants.{Client, Server}
use Rattle.dn_script.specs.declared.judging.GroupView.{GroupView}
use Rattle.dn_script.specs.declared.flaw.Flaw.{Flaw}
use Rattle.dn_script.specs.declared.flaw.Flaw.TheVariants.{Number, Hex, Range, Honest, Corrupt}

-- what is wrong with the field of this number
abbrev pub cause_at : ℕ → Flaw → Cause
cause_at field Number = causes.Number field
cause_at field Hex = causes.Hex field
cause_at field Range = causes.Range field
cause_at field Honest = causes.Honest field
cause_at field Corrupt = causes.Corrupt field

-- a value, unless one of some tests holds
abbrev pub unless : {A : Type 0} → List (Bool × Flaw) → A → Result A Flaw
unless [] x = Ok x
unless (test ∷ tests) x = if test.0 then Err test.1 else unless tests x

pub record Judged (A : Type 0) : Type 1 where
  pub spell : A → List ℕ
  pub tests : List ℕ → List (Bool × Flaw)
  pub value : List ℕ → A

abbrev pub judge : {A : Type 0} → Judged A → List ℕ → Result A Flaw
judge f text = unless (f.tests text) (f.value text)

-- ---- numbers

-- digits alone, one at least, and no zero in front of others
abbrev pub is_numeral : List ℕ → Bool
is_numeral [] = false
is_numeral (b ∷ text) = (length text == 0 || not (b == 48)) && all_ascii_digits (b ∷ text)

abbrev pub is_outside : ℕ → ℕ → ℕ → Bool
is_outside low high n = nat_lt n low || nat_lt high n

abbrev pub within : ℕ → ℕ → Judged ℕ
within low high = record {
  spell = decimal;
  tests = λ text. (not (is_numeral text), Number) ∷ (is_outside low high (digits_value 10 text), Range) ∷ [];
  value = digits_value 10;
}

-- ---- bytes

abbrev pub bytes_or_none : List ℕ → List ℕ
bytes_or_none text = unwrap_or (bytes_in text) []

-- from low to high bytes
abbrev pub bytes_within : ℕ → ℕ → Judged (List ℕ)
bytes_within low high = record {
  spell = hex_text;
  tests = λ text. (is_none (bytes_in text), Hex) ∷ (is_outside low high (length (bytes_or_none text)), Range) ∷ [];
  value = bytes_or_none;
}

-- any bytes
abbrev pub any_bytes : Judged (List ℕ)
any_bytes = record { spell = hex_text; tests = λ text. (is_none (bytes_in text), Hex) ∷ []; value = bytes_or_none }

-- ---- members

-- the numbers of clients and servers, and the corrupt members
pub record Group : Type 0 where
  pub clients : ℕ
  pub servers : ℕ
  pub corrupt : List Member

-- a letter in front of a numeral
abbrev pub is_behind : ℕ → List ℕ → Bool
is_behind letter [] = false
is_behind letter (b ∷ text) = b == letter && is_numeral text

abbrev pub is_member : List ℕ → Bool
is_member text = is_behind 99 text || is_behind 115 text

abbrev pub number_behind : List ℕ → ℕ
number_behind [] = 0
number_behind (b ∷ text) = digits_value 10 text

-- a letter, and a number below a limit
abbrev pub behind : ℕ → ℕ → Judged ℕ
behind letter limit = record {
  spell = λ n. letter ∷ decimal n;
  tests = λ text. (not (is_behind letter text), Number) ∷ (nat_le limit (number_behind text), Range) ∷ [];
  value = number_behind;
}

abbrev pub client_value : List ℕ → ClientId
client_value text = record { 0 = number_behind text }

abbrev pub server_value : List ℕ → ServerId
server_value text = record { 0 = number_behind text }

abbrev pub member_value : List ℕ → Member
member_value text = if is_behind 99 text then Client (client_value text) else Server (server_value text)

abbrev pub client_text : ClientId → List ℕ
client_text i = 99 ∷ decimal i.0

abbrev pub server_text : ServerId → List ℕ
server_text j = 115 ∷ decimal j.0

abbrev pub member_text : Member → List ℕ
member_text (Client i) = client_text i
member_text (Server j) = server_text j

abbrev pub same_member : Member → Member → Bool
same_member (Client i) (Client j) = i.0 == j.0
same_member (Client i) (Server j) = false
same_member (Server i) (Client j) = false
same_member (Server i) (Server j) = i.0 == j.0

abbrev pub is_among : Member → List Member → Bool
is_among m [] = false
is_among m (n ∷ members) = same_member m n || is_among m members

abbrev pub is_stranger : Group → Member → Bool
is_stranger g (Client i) = nat_le g.clients i.0
is_stranger g (Server j) = nat_le g.servers j.0

abbrev pub is_corrupt : Group → Member → Bool
is_corrupt g m = is_among m g.corrupt

abbrev pub client_in : Group → Judged ClientId
client_in g = record {
  spell = client_text;
  tests = λ text. (not (is_behind 99 text), Number) ∷ (is_stranger g (Client (client_value text)), Range) ∷ [];
  value = client_value;
}

abbrev pub server_in : Group → Judged ServerId
server_in g = record {
  spell = server_text;
  tests = λ text. (not (is_behind 115 text), Number) ∷ (is_stranger g (Server (server_value text)), Range) ∷ [];
  value = server_value;
}

abbrev pub member_in : Group → Judged Member
member_in g = record {
  spell = member_text;
  tests = λ text. (not (is_member text), Number) ∷ (is_stranger g (member_value text), Range) ∷ [];
  value = member_value;
}

abbrev pub corrupt_member : Group → Judged Member
corrupt_member g = record {
  spell = member_text;
  tests = λ text. (not (is_member text), Number) ∷ (is_stranger g (member_value text), Range) ∷ (not (is_corrupt g (member_value text)), Honest) ∷ [];
  value = member_value;
}

abbrev pub corrupt_server : Group → Judged ServerId
corrupt_server g = record {
  spell = server_text;
  tests = λ text. (not (is_behind 115 text), Number) ∷ (is_stranger g (Server (server_value text)), Range) ∷ (not (is_corrupt g (Server (server_value text))), Honest) ∷ [];
  value = server_value;
}

abbrev pub honest_server : Group → Judged ServerId
honest_server g = record {
  spell = server_text;
  tests = λ text. (not (is_behind 115 text), Number) ∷ (is_stranger g (Server (server_value text)), Range) ∷ (is_corrupt g (Server (server_value text)), Corrupt) ∷ [];
  value = server_value;
}

-- an honest client, as a member
abbrev pub honest_client : Group → Judged Member
honest_client g = record {
  spell = member_text;
  tests = λ text. (not (is_behind 99 text), Number) ∷ (is_stranger g (Client (client_value text)), Range) ∷ (is_corrupt g (Client (client_value text)), Corrupt) ∷ [];
  value = λ text. Client (client_value text);
}

-- a group as calls take it
abbrev pub seen_as : GroupView → Group
seen_as g = record { clients = g.clients; servers = g.servers; corrupt = g.corrupt.now }
