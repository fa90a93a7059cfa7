-- What justifies that a server signs a body: what it heard, what it said itself, and what clients gave it.
--
-- Two relations are parameters, so that one definition serves a single server and a whole run:
--   said who s        the signer `who` has said `s`; for the server itself: it has signed `s`
--   included s c      the server has told the client of the submission `s` Included, for `s` and for the ciphertext `c` that came with it
-- All of it stays where more is said and included and more certificates are held.
use Rattle.std.specs.Prelude.{◌≡◌, ℕ, ◌<◌, Bool, true, false, List, [], ◌∷◌, ◌++◌, map, length, All, slice_get, slice_index_or, Some}
use Rattle.dn_wire.specs.declared.ids.Round.{Round}
use Rattle.dn_wire.specs.declared.ids.SignerId.{SignerId}
use Rattle.dn_bits.specs.Bits.{sum_bits, bytes_of}
use Rattle.dn_hash.specs.Digests.{cipher_digest_of, server_digest_of}
use Rattle.dn_pads.specs.Pads.{pad_of}
use Rattle.dn_record_types.specs.declared.body.Body.{Body}
use Rattle.dn_record_types.specs.declared.body.Listed.{Listed}
use Rattle.dn_record_types.specs.declared.inventory.Inventory.{Inventory}
use Rattle.dn_record_types.specs.declared.shown.ShownCipher.{ShownCipher}
use Rattle.dn_record_types.specs.declared.statement.Statement.{Statement}
use Rattle.dn_record_types.specs.declared.statement.Statement.TheVariants as kinds
use Rattle.dn_roster.specs.Roster.{RosterView}
use Rattle.dn_seal.specs.Dealt.{server}
use Rattle.dn_layout.specs.Layout.{bits_of}
use Rattle.dn_cert.specs.Chain.{ChainView, IsLayoutAfter, IsAtFloor}
use Rattle.dn_cert.specs.Signed.{EntryVerifies}
use Rattle.dn_cert.specs.Trim.{IsTrim, given_to}

-- A server in its group: the roster, the server's number, and the seeds that it shares with the clients, by client.
pub record Seat : Type 0 where
  pub roster : RosterView
  pub number : ℕ
  pub seeds : List (List ℕ)

-- how many servers the group has
abbrev pub servers_of : Seat → ℕ
servers_of seat = length seat.roster.servers

-- A round, the round that it follows, and how many bits it has.
pub record Course : Type 0 where
  pub r : Round
  pub prev : Round
  pub bits : ℕ

-- the pad of client i and the server
abbrev pub pad_with : Seat → Course → ℕ → List Bool
pad_with seat course i = pad_of (slice_index_or seat.seeds i []) course.r.0 course.bits

-- The server's ciphertext: the sum of its pads with all clients of the list, and of the clients' ciphertexts `own`.
abbrev pub server_string : Seat → Course → List Listed → List ShownCipher → List Bool
server_string seat course listed own =
    sum_bits course.bits (map (λ l. pad_with seat course l.client.0) listed ++ map (λ s. s.cipher) own)

-- the digest of a server's ciphertext
abbrev pub digest_by : Course → ℕ → List Bool → List ℕ
digest_by course j s = server_digest_of course.r.0 j (bytes_of s)

-- the submission that a row of a list stands for
abbrev pub submission_of : Course → Listed → Statement
submission_of course l = kinds.Submission course.r course.prev l.client l.digest

-- The ciphertext is the one that a row stands for: it is its client's, has the round's length, and has the row's digest.
pub record IsOfRow (course : Course) (l : Listed) (s : ShownCipher) : Type 0 where
  pub client : s.client ≡ l.client
  pub long : length s.cipher ≡ course.bits
  pub digest : l.digest ≡ cipher_digest_of course.r.0 l.client.0 (bytes_of s.cipher)

-- the ciphertexts are those of the rows, one for each, in their order
abbrev pub AreOfRows : Course → List Listed → List ShownCipher → Type 0
AreOfRows course [] [] = Unit {0}
AreOfRows course [] (s ∷ ss) = ⊥
AreOfRows course (l ∷ ls) [] = ⊥
AreOfRows course (l ∷ ls) (s ∷ ss) = IsOfRow course l s × AreOfRows course ls ss

module _ (said : SignerId → Statement → Type 0) where
  -- Each server has said one of these inventories, by number, for this round after this prev; each of their entries verifies.
  pub record AreInventories (seat : Seat) (course : Course) (inventories : List Inventory) : Type 0 where
    pub each : length inventories ≡ servers_of seat
    pub said_so : (x : ℕ) (v : Inventory) → slice_get inventories x ≡ Some v → said (server x) (kinds.Inventory v)
    pub here : All (λ v. (v.r ≡ course.r) × (v.prev ≡ course.prev)) inventories
    pub verify : All (λ v. All (EntryVerifies seat.roster course.r course.prev) v.entries) inventories

module _ (included : Statement → List Bool → Type 0) where
  -- each row's submission was told Included with the ciphertext that stands in its place
  abbrev pub AreIncluded : Course → List Listed → List ShownCipher → Type 0
  AreIncluded course [] ss = Unit {0}
  AreIncluded course (l ∷ ls) [] = Unit {0}
  AreIncluded course (l ∷ ls) (s ∷ ss) = included (submission_of course l) s.cipher × AreIncluded course ls ss

-- a body with no data
pub record HasNoData (b : Body) : Type 0 where
  pub digests : b.digests ≡ []
  pub out : b.out ≡ []

module _ (said : SignerId → Statement → Type 0) (included : Statement → List Bool → Type 0) where
  -- The output, where the round has data: the sum of one ciphertext from each server, which the server committed to and then revealed. The
  -- server's own one is the sum of its pads and of the ciphertexts of the clients that the list gives to it, each told Included.
  pub record IsOutput (seat : Seat) (course : Course) (b : Body) : Type 0 where
    pub strings : List (List Bool)
    pub own : List ShownCipher
    pub each : length strings ≡ servers_of seat
    pub long : All (λ s. length s ≡ course.bits) strings
    pub committed : (x : ℕ) (s : List Bool) → slice_get strings x ≡ Some s → said (server x) (kinds.Commit course.r (digest_by course x s))
    pub revealed : (x : ℕ) (s : List Bool) → slice_get strings x ≡ Some s → said (server x) (kinds.Reveal course.r s)
    pub digests : length b.digests ≡ servers_of seat
    pub digest : (x : ℕ) (s : List Bool) → slice_get strings x ≡ Some s → slice_get b.digests x ≡ Some (digest_by course x s)
    pub rows : AreOfRows course (given_to b.listed seat.number) own
    pub told : AreIncluded included course (given_to b.listed seat.number) own
    pub itself : slice_get strings seat.number ≡ Some (server_string seat course b.listed own)
    pub sum : b.out ≡ sum_bits course.bits strings

  -- what follows the list in a body: data, or none where the floor says so
  abbrev pub IsEnding : Bool → Seat → Course → Body → Type 0
  IsEnding true seat course b = HasNoData b
  IsEnding false seat course b = IsOutput seat course b

  -- The body is justified: its prev is held, or is 0; it lists the trim of what all servers have said; and its output is the servers', or
  -- there is none where the floor says so, of the clients that it lists and those that counted in the round of its prev.
  pub record Justified (seat : Seat) (chain : ChainView) (b : Body) : Type 0 where
    pub layout : List ℕ
    pub inventories : List Inventory
    pub version : b.version ≡ seat.roster.version
    pub before : b.prev.0 < b.r.0
    pub after : IsLayoutAfter chain b.prev.0 layout
    pub floor : IsAtFloor chain b
    pub heard : AreInventories said seat (record { r = b.r; prev = b.prev; bits = bits_of layout }) inventories
    pub trim : IsTrim inventories b.listed
    pub ending : IsEnding b.thin seat (record { r = b.r; prev = b.prev; bits = bits_of layout }) b
