-- Payloads that are opened whole.
use Rattle.std.specs.Prelude.{◌≡◌, ◌≢◌, ◌⊎◌, ℕ, List, Ok, Err}
use Rattle.dn_records.specs.Records.{payload_of, payload_bytes}
use Rattle.dn_record_types.specs.declared.statement.Statement.{Statement}
use Rattle.dn_record_types.specs.declared.statement.Statement.TheVariants as kinds
use Rattle.dn_record_types.specs.declared.payload.Payload.{Payload}
use Rattle.dn_record_types.specs.declared.payload.Payload.TheVariants as payloads
use Rattle.dn_record_types.specs.declared.fault.RecordFault.{RecordFault}
use Rattle.dn_record_types.specs.declared.fault.RecordFault.TheVariants as form_faults
use Rattle.dn_roster.specs.Roster.{RosterView}
use Rattle.dn_seal.specs.declared.unopened.Unopened.{Unopened}
use Rattle.dn_seal.specs.declared.unopened.Unopened.TheVariants as reasons
use Rattle.dn_seal.specs.Said.{SaidView, IsSaid, IsUnder, IsUnopened}
use Rattle.dn_seal.specs.Challenge.{AreOpened, IsFirstUnopened}
use Rattle.dn_cert.specs.declared.fault.CertFault.{CertFault}
use Rattle.dn_cert.specs.declared.fault.CertFault.TheVariants as refusals
use Rattle.dn_cert.specs.declared.opened.Opened.{Opened}
use Rattle.dn_cert.specs.declared.opened.Opened.TheVariants as opened
use Rattle.dn_cert.specs.declared.payload_fault.PayloadFault.{PayloadFault}
use Rattle.dn_cert.specs.declared.payload_fault.PayloadFault.TheVariants as faults
use Rattle.dn_cert.specs.Certificate.{IsCertificate, IsCertificateUnder, ArePartsRefused}

-- a client's word on its ciphertext
abbrev pub IsSubmission : Statement → Type 0
IsSubmission (kinds.Submission r prev client digest) = Unit {0}
IsSubmission _ = ⊥

-- an envelope unsealed under the roster, to this
abbrev pub IsOpenedEnvelope : RosterView → List ℕ → SaidView → Type 0
IsOpenedEnvelope roster envelope said = IsSaid said × IsUnder roster said × (said.bytes ≡ envelope)

-- The payload opens under the roster, to this: each envelope in it unsealed, a ciphertext comes with a submission, and a certificate is
-- one of the group.
abbrev pub IsOpened : RosterView → Payload → Opened → Type 0
IsOpened roster (payloads.Submission cipher envelope) (opened.Submission its_cipher said) =
    (its_cipher ≡ cipher) × IsOpenedEnvelope roster envelope said × IsSubmission said.statement
IsOpened roster (payloads.Plain envelope) (opened.Plain said) = IsOpenedEnvelope roster envelope said
IsOpened roster (payloads.Certificate body signatures) (opened.Certificate c) =
    IsCertificate c × IsCertificateUnder roster c × (c.body ≡ body) × (c.bytes ≡ payload_bytes (payloads.Certificate body signatures))
IsOpened roster (payloads.Challenge r k envelopes) (opened.Challenge c) = (c.r ≡ r) × (c.k ≡ k) × AreOpened roster envelopes c.shown.items
IsOpened roster _ _ = ⊥

-- what a payload is told of an envelope in it that doesn't unseal
abbrev pub envelope_fault : Unopened → PayloadFault
envelope_fault (reasons.Form fault) = faults.Form
envelope_fault (reasons.Stranger who) = faults.Stranger
envelope_fault reasons.Signature = faults.Signature
envelope_fault reasons.NoMemory = faults.NoMemory

-- and of what its form says is a certificate, and isn't
abbrev pub certificate_fault : CertFault → PayloadFault
certificate_fault (refusals.Form fault) = faults.Form
certificate_fault (refusals.Missing server) = faults.Form
certificate_fault (refusals.Body server) = faults.Form
certificate_fault (refusals.Signature server) = faults.Signature
certificate_fault refusals.NoMemory = faults.NoMemory

-- the envelope doesn't unseal, and the fault says why
abbrev pub IsClosedEnvelope : RosterView → List ℕ → PayloadFault → Type 0
IsClosedEnvelope roster envelope fault =
    (reason : Unopened) × (reason ≢ reasons.NoMemory) × IsUnopened roster envelope reason × (fault ≡ envelope_fault reason)

-- the envelope unsealed to another statement than a submission
abbrev pub IsNoSubmission : RosterView → List ℕ → Type 0
IsNoSubmission roster envelope = (said : SaidView) × IsOpenedEnvelope roster envelope said × ¬ IsSubmission said.statement

-- The payload doesn't open under the roster, and the fault is that of the first part of it for which it doesn't.
abbrev pub IsClosed : RosterView → Payload → PayloadFault → Type 0
IsClosed roster (payloads.Submission cipher envelope) fault =
    IsClosedEnvelope roster envelope fault ⊎ (IsNoSubmission roster envelope × (fault ≡ faults.Form))
IsClosed roster (payloads.Plain envelope) fault = IsClosedEnvelope roster envelope fault
IsClosed roster (payloads.Certificate body signatures) fault =
    (refusal : CertFault) × ArePartsRefused roster body signatures refusal × (fault ≡ certificate_fault refusal)
IsClosed roster (payloads.Challenge r k envelopes) fault =
    (reason : Unopened) × (reason ≢ reasons.NoMemory) × IsFirstUnopened roster envelopes reason × (fault ≡ envelope_fault reason)

-- the bytes are no payload
abbrev pub IsNoPayload : List ℕ → Type 0
IsNoPayload bytes = (fault : RecordFault) × (fault ≢ form_faults.NoMemory) × (payload_of bytes ≡ Err fault)

-- Why bytes don't open under a roster; want of memory may be told of all bytes.
abbrev pub IsUnopenedPayload : RosterView → List ℕ → PayloadFault → Type 0
IsUnopenedPayload roster bytes fault =
    (fault ≡ faults.NoMemory)
    ⊎ ((IsNoPayload bytes × (fault ≡ faults.Form))
    ⊎ ((p : Payload) × (payload_of bytes ≡ Ok p) × IsClosed roster p fault))
