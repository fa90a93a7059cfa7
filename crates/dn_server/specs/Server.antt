-- What contracts see of a server.
use Rattle.std.specs.Prelude.{◌≡◌, ℕ, ◌-◌, ◌==◌, ◌&&◌, not, Bool, true, false, List, [], ◌∷◌, ◌++◌, map, filter, find, length, Option, Some, option_map, slice_get}
use Rattle.dn_wire.specs.declared.ids.ClientId.{ClientId}
use Rattle.dn_wire.specs.declared.ids.Member.{Member}
use Rattle.dn_wire.specs.declared.ids.Member.TheVariants as members
use Rattle.dn_wire.specs.declared.ids.SignerId.{SignerId}
use Rattle.dn_wire.specs.declared.ids.SignerId.TheVariants as signers
use Rattle.dn_bits.specs.Bits.{below}
use Rattle.dn_lms.specs.Key.{Key, leaf_count}
use Rattle.dn_record_types.specs.declared.payload.Payload.TheVariants as payloads
use Rattle.dn_record_types.specs.declared.statement.Statement.{Statement}
use Rattle.dn_record_types.specs.declared.statement.Statement.TheVariants as kinds
use Rattle.dn_record_types.specs.declared.statement.WordTold.TheVariants as words
use Rattle.dn_records.specs.Records.{kind_byte, payload_bytes}
use Rattle.dn_seal.specs.Dealt.{server}
use Rattle.dn_seal.specs.Said.{SaidView}
use Rattle.dn_seal.specs.Signer.{sealed_bytes}
use Rattle.dn_cert.specs.Chain.{ChainView}
use Rattle.dn_server.specs.declared.act.Act.{Act}
use Rattle.dn_server.specs.declared.act.Act.TheVariants as acts
use Rattle.dn_server.specs.declared.claims.Claim.{Claim}
use Rattle.dn_server.specs.declared.past.Past.{Past}
use Rattle.dn_server.specs.declared.places.Place.{Place}
use Rattle.dn_server.specs.declared.run.Run.{Run}
use Rattle.dn_server.specs.Identity.{said_by}
use Rattle.dn_server.specs.Justified.{Seat, Course, servers_of}

-- A server: its place in the group, how many workers its sums have, and its key; the certificates that it holds; the record of the round
-- that it opened last; what it keeps of rounds whose bodies it signed; all that its key ever signed, in order, the n-th at leaf n; how many
-- leaves are set aside for the round that runs; the places that it opened; the openings and answers of clients that it keeps; the places at
-- which it looked for clients to challenge; where the next sum is to be changed, and whether it ever did more than the rules say; and whether
-- memory failed it.
pub record ServerView : Type 0 where
  pub seat : Seat
  pub workers : ℕ
  pub key : Key
  pub chain : ChainView
  pub run : Run
  pub pasts : List Past
  pub signed : List Statement
  pub aside : ℕ
  pub opened : List Place
  pub evidence : List SaidView
  pub challenged : List Place
  pub bend : Option ℕ
  pub bent : Bool
  pub spent : Bool

-- the server as a signer
abbrev pub itself : ServerView → SignerId
itself v = server v.seat.number

-- how many servers the group has
abbrev pub servers_in : ServerView → ℕ
servers_in v = servers_of v.seat

-- how many leaves are left
abbrev pub left_of : ServerView → ℕ
left_of v = leaf_count v.key - length v.signed

-- the round of a record
abbrev pub course_of : Run → Course
course_of run = record { r = run.r; prev = run.prev; bits = run.bits }

abbrev pub client_member : ℕ → Member
client_member i = members.Client record { 0 = i }

abbrev pub server_member : ℕ → Member
server_member j = members.Server record { 0 = j }

-- the other servers, by number
abbrev pub others_of : Seat → List Member
others_of seat = map server_member (filter (λ j. not (j == seat.number)) (below (servers_of seat)))

-- all clients and the other servers, each by number
abbrev pub everyone_of : Seat → List Member
everyone_of seat = map client_member (below (length seat.roster.clients)) ++ others_of seat

-- ---- statements that are kept

-- the signer is server j
abbrev pub is_server : ℕ → SignerId → Bool
is_server j (signers.Client i) = false
is_server j (signers.Server x) = x.0 == j
is_server j (signers.Slot s) = false

-- server j's statement of this kind
abbrev pub is_of : ℕ → ℕ → SaidView → Bool
is_of kind j said = is_server j said.signer && kind_byte said.statement == kind

-- what is kept of server j, of this kind
abbrev pub kept_of : List SaidView → ℕ → ℕ → Option SaidView
kept_of kept kind j = find (is_of kind j) kept

abbrev pub statement_of : List SaidView → ℕ → ℕ → Option Statement
statement_of kept kind j = option_map (λ s. s.statement) (kept_of kept kind j)

-- Of each of n servers a statement of this kind is kept; what they say stands in the list, by server.
pub record AreKept {A : Type 0} (make : A → Statement) (kind : ℕ) (kept : List SaidView) (n : ℕ) (xs : List A) : Type 0 where
  pub each : length xs ≡ n
  pub say : (j : ℕ) (x : A) → slice_get xs j ≡ Some x → statement_of kept kind j ≡ Some (make x)

-- what is kept of a round whose body was signed
abbrev pub past_of : List Past → ℕ → Option Past
past_of pasts r = find (λ p. p.body.r.0 == r) pasts

-- ---- submissions

-- the submission was told Included, and came with this ciphertext
pub record WasIncluded (run : Run) (s : Statement) (c : List Bool) : Type 0 where
  pub client : ClientId
  pub claim : Claim
  pub claimed : slice_get run.claims client.0 ≡ Some (Some claim)
  pub told : claim.told ≡ words.Included
  pub is : s ≡ kinds.Submission run.r run.prev client claim.digest
  pub cipher : c ≡ claim.cipher

-- ---- what a server says

-- the envelope that the server seals next, where it seals this statement
abbrev pub sealed_next : ServerView → Statement → List ℕ
sealed_next v s = sealed_bytes v.seat.roster (itself v) v.key (length v.signed) s

-- the statement as the server keeps it
abbrev pub said_next : ServerView → Statement → SaidView
said_next v s = said_by v.seat.roster v.seat.number v.key (length v.signed) s

-- the statement's envelope, for these members
abbrev pub post_next : ServerView → List Member → Statement → Act
post_next v to s = acts.Post to (payload_bytes (payloads.Plain (sealed_next v s)))

-- the server with one statement more that it signed
abbrev pub with_signed : ServerView → Statement → ServerView
with_signed v s = record v { signed = v.signed ++ s ∷ [] }

-- the run ends: nothing is set aside any more, and the window is shut
abbrev pub ended_run : Run → Run
ended_run run = record run { is_running = false; window = record run.window { closed = true } }

abbrev pub ended : ServerView → ServerView
ended v = record v { run = ended_run v.run; aside = 0 }
