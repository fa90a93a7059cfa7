-- Statements whose signature verified.
use Rattle.std.specs.Prelude.{◌≡◌, ◌≢◌, ℕ, List, Some, None, Ok, Err}
use Rattle.dn_wire.specs.declared.ids.SignerId.{SignerId}
use Rattle.dn_record_types.specs.declared.statement.Statement.{Statement}
use Rattle.dn_record_types.specs.declared.envelope.Envelope.{Envelope}
use Rattle.dn_record_types.specs.declared.fault.RecordFault.TheVariants as faults
use Rattle.dn_records.specs.Records.{statement_bytes, envelope_bytes, envelope_of, IsEnvelope}
use Rattle.dn_lms.specs.Signature.{Verifies}
use Rattle.dn_roster.specs.Roster.{RosterView, key_of, digest_of, signed_bytes_of}
use Rattle.dn_seal.specs.Signer.{envelope}
use Rattle.dn_seal.specs.declared.unopened.Unopened.{Unopened}
use Rattle.dn_seal.specs.declared.unopened.Unopened.TheVariants.{Form, Stranger, Signature, NoMemory}

-- the digest of its group, its signer's public key and its signer, the statement and its signature, and the bytes of the envelope
pub record SaidView : Type 0 where
  pub digest : List ℕ
  pub key : List ℕ
  pub signer : SignerId
  pub statement : Statement
  pub signature : List ℕ
  pub bytes : List ℕ

-- a signature of the signer's statement verifies under the key, in the group with this digest
abbrev pub Signs : List ℕ → List ℕ → Envelope → Type 0
Signs digest key e = Verifies key (signed_bytes_of digest e.signer (statement_bytes e.statement)) e.signature

-- the bytes are an envelope of the statement, whose signature verifies under the key that is kept
pub record IsSaid (said : SaidView) : Type 0 where
  pub fits : IsEnvelope (envelope said.signer said.statement said.signature)
  pub spelled : said.bytes ≡ envelope_bytes (envelope said.signer said.statement said.signature)
  pub verifies : Signs said.digest said.key (envelope said.signer said.statement said.signature)

-- the digest and the key are those of this roster
abbrev pub IsUnder : RosterView → SaidView → Type 0
IsUnder roster said = (said.digest ≡ digest_of roster) × (key_of roster said.signer ≡ Some said.key)

-- the bytes are an envelope of this statement, whose signature verifies under this roster
pub record Unseals (roster : RosterView) (bytes : List ℕ) (who : SignerId) (s : Statement) : Type 0 where
  pub signature : List ℕ
  pub key : List ℕ
  pub fits : IsEnvelope (envelope who s signature)
  pub spelled : bytes ≡ envelope_bytes (envelope who s signature)
  pub known : key_of roster who ≡ Some key
  pub verifies : Signs (digest_of roster) key (envelope who s signature)

-- why bytes don't unseal: the first of these that is so
abbrev pub IsUnopened : RosterView → List ℕ → Unopened → Type 0
IsUnopened roster bytes (Form fault) = (fault ≢ faults.NoMemory) × (envelope_of bytes ≡ Err fault)
IsUnopened roster bytes (Stranger who) = (e : Envelope) × (envelope_of bytes ≡ Ok e) × (e.signer ≡ who) × (key_of roster who ≡ None)
IsUnopened roster bytes Signature =
    (e : Envelope) × (key : List ℕ) × (envelope_of bytes ≡ Ok e) × (key_of roster e.signer ≡ Some key) × ¬ Signs (digest_of roster) key e
IsUnopened roster bytes NoMemory = Unit {0}
