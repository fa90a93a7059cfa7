-- The signatures in a payload that verify: each envelope by itself, and what its statement carries, verified or not.
use Rattle.std.specs.Prelude.{◌≡◌, ℕ, ◌<◌, Bool, List, length, Contains}
use Rattle.dn_wire.specs.declared.ids.Round.{Round}
use Rattle.dn_wire.specs.declared.ids.ServerId.{ServerId}
use Rattle.dn_wire.specs.declared.ids.SignerId.{SignerId}
use Rattle.dn_wire.specs.declared.ids.SignerId.TheVariants.{Client, Server}
use Rattle.dn_record_types.specs.declared.body.Body.{Body}
use Rattle.dn_record_types.specs.declared.envelope.Envelope.{Envelope}
use Rattle.dn_record_types.specs.declared.inventory.Entry.{Entry}
use Rattle.dn_record_types.specs.declared.inventory.Inventory.{Inventory}
use Rattle.dn_record_types.specs.declared.payload.Payload.{Payload}
use Rattle.dn_record_types.specs.declared.payload.Payload.TheVariants as payloads
use Rattle.dn_record_types.specs.declared.statement.Statement.{Statement}
use Rattle.dn_record_types.specs.declared.statement.Statement.TheVariants as kinds
use Rattle.dn_records.specs.Records.{payload_bytes, envelope_bytes, IsPayload, IsEnvelope}
use Rattle.dn_roster.specs.Roster.{RosterView, digest_of}
use Rattle.dn_seal.specs.Said.{Unseals}
use Rattle.dn_cert.specs.Certificate.{IsSignedAt}
use Rattle.dn_cert.specs.Signed.{EntryVerifies}

-- the bytes are this envelope
pub record IsEnvelopeOf (bytes : List ℕ) (e : Envelope) : Type 0 where
  pub fits : IsEnvelope e
  pub spelled : bytes ≡ envelope_bytes e

-- the bytes are this payload
pub record IsPayloadOf (bytes : List ℕ) (p : Payload) : Type 0 where
  pub fits : IsPayload p
  pub spelled : bytes ≡ payload_bytes p

-- An envelope's bytes have a signature that verifies on this statement: its own, one of an inventory's entries, or one of the envelope
-- that a rebuttal carries.
pub data SealedIn (roster : RosterView) : List ℕ → SignerId → Statement → Type 0 where
  itself : {bytes : List ℕ} {who : SignerId} {s : Statement} → Unseals roster bytes who s → SealedIn roster bytes who s
  entry : {bytes : List ℕ} (e : Envelope) (v : Inventory) (x : Entry) → IsEnvelopeOf bytes e → e.statement ≡ kinds.Inventory v → Contains v.entries x
      → EntryVerifies roster v.r v.prev x → SealedIn roster bytes (Client x.client) (kinds.Submission v.r v.prev x.client x.digest)
  carried : {bytes : List ℕ} {who : SignerId} {s : Statement} (e : Envelope) (r : Round) (k : ℕ) (server : ServerId) (seed envelope : List ℕ)
      → IsEnvelopeOf bytes e → e.statement ≡ kinds.Rebuttal r k server seed envelope → SealedIn roster envelope who s → SealedIn roster bytes who s

-- a payload has a signature that verifies on this statement
pub data SignedIn (roster : RosterView) : Payload → SignerId → Statement → Type 0 where
  submission : {who : SignerId} {s : Statement} (cipher : List Bool) (envelope : List ℕ) → SealedIn roster envelope who s → SignedIn roster (payloads.Submission cipher envelope) who s
  plain : {who : SignerId} {s : Statement} (envelope : List ℕ) → SealedIn roster envelope who s → SignedIn roster (payloads.Plain envelope) who s
  certificate : (body : Body) (signatures : List (List ℕ)) (j : ServerId) → j.0 < length roster.servers
      → IsSignedAt (digest_of roster) roster.servers body signatures j.0 → SignedIn roster (payloads.Certificate body signatures) (Server j) (kinds.Sign body)
  challenge : {who : SignerId} {s : Statement} (r : Round) (k : ℕ) (envelopes : List (List ℕ)) (envelope : List ℕ) → Contains envelopes envelope
      → SealedIn roster envelope who s → SignedIn roster (payloads.Challenge r k envelopes) who s

-- a payload's bytes have such a signature
pub record HasSignature (roster : RosterView) (bytes : List ℕ) (who : SignerId) (s : Statement) : Type 0 where
  pub payload : Payload
  pub is : IsPayloadOf bytes payload
  pub signed : SignedIn roster payload who s
