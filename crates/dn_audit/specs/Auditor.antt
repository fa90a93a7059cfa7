-- What an audit asks of signatures, and what it keeps.
use Rattle.std.specs.Prelude.{◌≡◌, ◌↔◌, ◌⊎◌, ℕ, Bool, IsTrue, List, [], ◌∷◌, ◌++◌, map, All, Contains, Some}
use Rattle.std.specs.Int.{w32, w64, to_be_bytes}
use Rattle.dn_wire.specs.declared.ids.SignerId.{SignerId}
use Rattle.dn_wire.specs.declared.ids.SignerId.TheVariants.{Client, Server}
use Rattle.dn_bits.specs.Bits.{bytes_of}
use Rattle.dn_hash.specs.Digests.{seed_commitment_of, cipher_digest_of, server_digest_of}
use Rattle.dn_record_types.specs.declared.envelope.Envelope.{Envelope}
use Rattle.dn_record_types.specs.declared.inventory.Entry.{Entry}
use Rattle.dn_record_types.specs.declared.inventory.Inventory.{Inventory}
use Rattle.dn_record_types.specs.declared.shown.ShownCipher.{ShownCipher}
use Rattle.dn_record_types.specs.declared.statement.Statement.{Statement}
use Rattle.dn_record_types.specs.declared.statement.Statement.TheVariants as kinds
use Rattle.dn_records.specs.Records.{statement_bytes}
use Rattle.dn_lms.specs.Signature.{Verifies}
use Rattle.dn_roster.specs.Roster.{RosterView, key_of, digest_of, signed_bytes_of}
use Rattle.dn_audit.specs.Group.{GroupView, IsHonestKey}
use Rattle.dn_audit.specs.Strings.{Hashed, StringsView, NoneCollide, Tells}
use Rattle.dn_audit.specs.Signatures.{SealedIn, HasSignature}

-- ---- signatures

-- what a signer signs to make the statement in the group is among these bytes
abbrev pub HasSigned : List (List ℕ) → RosterView → SignerId → Statement → Type 0
HasSigned signed roster who s = Contains signed (signed_bytes_of (digest_of roster) who (statement_bytes s))

module _ (roster : RosterView) (group : GroupView) (signed : List (List ℕ)) where
  -- a signature of a statement's bytes that verifies under an honest member's key is of bytes that this key had signed
  abbrev pub MayStand : SignerId → List ℕ → List ℕ → Type 0
  MayStand who statement signature = IsHonestKey group who → (key : List ℕ) → key_of roster who ≡ Some key
      → Verifies key (signed_bytes_of (digest_of roster) who statement) signature → Contains signed (signed_bytes_of (digest_of roster) who statement)

  -- the same of an entry of an inventory: of the submission that it stands for
  abbrev pub MayBeListed : Inventory → Entry → Type 0
  MayBeListed v e = MayStand (Client e.client) (statement_bytes (kinds.Submission v.r v.prev e.client e.digest)) e.signature

  abbrev pub MayList : Inventory → Type 0
  MayList v = All (MayBeListed v) v.entries

  abbrev pub MayListIn : Statement → Type 0
  MayListIn (kinds.Inventory v) = MayList v
  MayListIn _ = Unit {0}

  -- the same of an envelope itself, and of what it lists
  pub record MaySeal (e : Envelope) : Type 0 where
    pub itself : MayStand e.signer (statement_bytes e.statement) e.signature
    pub lists : MayListIn e.statement

  -- each signature in an envelope's bytes that verifies under an honest member's key is of a statement that this key had signed
  abbrev pub SealsAreTheirs : List ℕ → Type 0
  SealsAreTheirs bytes = (who : SignerId) (s : Statement) → SealedIn roster bytes who s → IsHonestKey group who → HasSigned signed roster who s

  -- the same of a payload's bytes
  abbrev pub SignaturesAreTheirs : List ℕ → Type 0
  SignaturesAreTheirs bytes = (who : SignerId) (s : Statement) → HasSignature roster bytes who s → IsHonestKey group who → HasSigned signed roster who s

-- ---- strings

-- a seed of client i and server j
abbrev pub hashed_seed : ℕ → ℕ → List ℕ → Hashed
hashed_seed i j seed = record { digest = seed_commitment_of i j seed; string = to_be_bytes w32 i ++ to_be_bytes w32 j ++ seed }

-- a ciphertext of client i in round r
abbrev pub hashed_cipher : ℕ → ℕ → List Bool → Hashed
hashed_cipher r i cipher = record { digest = cipher_digest_of r i (bytes_of cipher); string = to_be_bytes w64 r ++ to_be_bytes w32 i ++ bytes_of cipher }

-- a ciphertext of server j in round r
abbrev pub hashed_sum : ℕ → ℕ → List Bool → Hashed
hashed_sum r j sum = record { digest = server_digest_of r j (bytes_of sum); string = to_be_bytes w64 r ++ to_be_bytes w32 j ++ bytes_of sum }

-- the strings of a run: its seeds, its clients' ciphertexts, and its servers'
pub record RunStrings : Type 0 where
  pub seeds : List Hashed
  pub ciphers : List Hashed
  pub sums : List Hashed

abbrev pub no_strings : RunStrings
no_strings = record { seeds = []; ciphers = []; sums = [] }

-- the strings with the clients' ciphertexts that a server shows
abbrev pub with_ciphers : ℕ → List ShownCipher → RunStrings → RunStrings
with_ciphers r shown x = record x { ciphers = x.ciphers ++ map (λ (c : ShownCipher). hashed_cipher r c.client.0 c.cipher) shown }

-- the strings with those that a statement shows, by who signed it: the seed in a client's rebuttal, a server's ciphertext in its reveal and its
-- showing, and the clients' ciphertexts in this
abbrev pub with_shown : RunStrings → SignerId → Statement → RunStrings
with_shown x (Client i) (kinds.Rebuttal r k j seed e) = record x { seeds = x.seeds ++ hashed_seed i.0 j.0 seed ∷ [] }
with_shown x (Server j) (kinds.Reveal r s) = record x { sums = x.sums ++ hashed_sum r.0 j.0 s ∷ [] }
with_shown x (Server j) (kinds.Shown r s shown) = with_ciphers r.0 shown (record x { sums = x.sums ++ hashed_sum r.0 j.0 s ∷ [] })
with_shown x _ _ = x

-- ---- the auditor

-- all bytes that honest keys signed, whether each signature that was looked at is theirs, and what tells of the strings
pub record AuditorView : Type 0 where
  pub signed : List (List ℕ)
  pub are_theirs : Bool
  pub seeds : StringsView
  pub ciphers : StringsView
  pub sums : StringsView

-- it tells of these strings
pub record TellsOf (v : AuditorView) (x : RunStrings) : Type 0 where
  pub seeds : Tells v.seeds x.seeds
  pub ciphers : Tells v.ciphers x.ciphers
  pub sums : Tells v.sums x.sums

-- it keeps what it knows of signatures, and of whatever strings it tells, it tells with these more
pub record AddsStrings (old new : AuditorView) (more : RunStrings → RunStrings) : Type 0 where
  pub signed : new.signed ≡ old.signed
  pub are_theirs : new.are_theirs ≡ old.are_theirs
  pub tells : (x : RunStrings) → TellsOf old x → TellsOf new (more x)

-- no two different seeds have one commitment, and no two different ciphertexts of clients, or of servers, one digest
pub record NoStringsCollide (x : RunStrings) : Type 0 where
  pub seeds : NoneCollide x.seeds
  pub ciphers : NoneCollide x.ciphers
  pub sums : NoneCollide x.sums

-- it knows that these bytes were signed too, and all else stays
pub record NotesSigned (old new : AuditorView) (bytes : List ℕ) : Type 0 where
  pub signed : (x : List ℕ) → Contains new.signed x ↔ (Contains old.signed x ⊎ (x ≡ bytes))
  pub are_theirs : new.are_theirs ≡ old.are_theirs
  pub tells : (x : RunStrings) → TellsOf old x → TellsOf new x

-- the signatures in these bytes are looked at too, and all else stays
pub record Looks (roster : RosterView) (group : GroupView) (old new : AuditorView) (bytes : List ℕ) : Type 0 where
  pub signed : new.signed ≡ old.signed
  pub are_theirs : IsTrue new.are_theirs ↔ (IsTrue old.are_theirs × SignaturesAreTheirs roster group old.signed bytes)
  pub tells : (x : RunStrings) → TellsOf old x → TellsOf new x
