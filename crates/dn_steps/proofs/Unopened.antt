-- In a payload that doesn't open nothing is said, and nothing is submitted.
use Rattle.std.proofs.Common.{◌≡◌, ◌≢◌, ℕ, Bool, List, Result, Ok, Err, refl, sym, ap, subst, ◌∙◌, inl, inr}
use Rattle.std.specs.Prelude.{Option, Some, None}
use Rattle.dn_wire.specs.declared.ids.SignerId.{SignerId}
use Rattle.dn_record_types.specs.declared.envelope.Envelope.{Envelope}
use Rattle.dn_record_types.specs.declared.statement.Statement.{Statement}
use Rattle.dn_record_types.specs.declared.statement.Statement.TheVariants as kinds
use Rattle.dn_record_types.specs.declared.fault.RecordFault.{RecordFault}
use Rattle.dn_record_types.specs.declared.payload.Payload.{Payload}
use Rattle.dn_record_types.specs.declared.payload.Payload.TheVariants as payloads
use Rattle.dn_records.specs.Records.{payload_of, envelope_of}
use Rattle.dn_record_types.proofs.RecordLaws.{payload_again, envelope_again}
use Rattle.std.proofs.lemmas.Option.{same_Some}
use Rattle.dn_roster.specs.Roster.{RosterView, digest_of, key_of}
use Rattle.dn_seal.specs.declared.unopened.Unopened.{Unopened}
use Rattle.dn_seal.specs.declared.unopened.Unopened.TheVariants as reasons
use Rattle.dn_seal.specs.Signer.{envelope}
use Rattle.dn_seal.specs.Said.{Signs, Unseals, IsUnopened}
use Rattle.dn_seal.proofs.SaidLemmas.{said_unseals, unsealed_once}
use Rattle.dn_cert.specs.Opening.{IsUnopenedPayload, IsClosed, IsSubmission as IsOfSubmission}
use Rattle.dn_cert.specs.declared.payload_fault.PayloadFault.{PayloadFault}
use Rattle.dn_cert.specs.declared.payload_fault.PayloadFault.TheVariants as faults
use Rattle.dn_headline.specs.Spoken.{Says, Submits, IsSubmission}

submission_there : (s : Statement) → IsSubmission s → IsOfSubmission s
submission_there (kinds.Submission r prev i d) is = tt
submission_there (kinds.Receipt r i d t) is = absurd is
submission_there (kinds.Inventory v) is = absurd is
submission_there (kinds.Commit r d) is = absurd is
submission_there (kinds.Reveal r s) is = absurd is
submission_there (kinds.Sign b) is = absurd is
submission_there (kinds.PadBits r k bs) is = absurd is
submission_there (kinds.Shown r s xs) is = absurd is
submission_there (kinds.Accusation r s k) is = absurd is
submission_there (kinds.Rebuttal r k j seed e) is = absurd is
submission_there (kinds.Concede r k) is = absurd is

module _ (roster : RosterView) (bytes : List ℕ) (who : SignerId) (s : Statement) where
  no_envelope : (fault : RecordFault) (e : Envelope) → ◌≡◌ {A = Result Envelope RecordFault} (Err fault) (Ok e) → ⊥
  no_envelope fault e h = absurd cc

  same_envelope : (d e : Envelope) → ◌≡◌ {A = Result Envelope RecordFault} (Ok d) (Ok e) → d ≡ e
  same_envelope d e h = cc

  no_key : (key : List ℕ) → ◌≡◌ {A = Option (List ℕ)} None (Some key) → ⊥
  no_key key h = absurd cc

  -- an envelope that unseals isn't closed
  unseals_open : (b : List ℕ) (reason : Unopened) → reason ≢ reasons.NoMemory → Unseals roster b who s → IsUnopened roster b reason → ⊥
  unseals_open b (reasons.Form fault) other u h = no_envelope fault (envelope who s u.signature) (sym h.1 ∙ ap envelope_of u.spelled ∙ envelope_again (envelope who s u.signature) u.fits)
  unseals_open b (reasons.Stranger by) other u h =
      let same = same_envelope h.0 (envelope who s u.signature) (sym h.1 ∙ ap envelope_of u.spelled ∙ envelope_again (envelope who s u.signature) u.fits) in
      let signer : who ≡ by = sym (ap (λ (z : Envelope). z.signer) same) ∙ h.2 in
      no_key u.key (sym h.3 ∙ ap (key_of roster) (sym signer) ∙ u.known)
  unseals_open b reasons.Signature other u h =
      let e = envelope who s u.signature in
      let same = same_envelope h.0 e (sym h.2 ∙ ap envelope_of u.spelled ∙ envelope_again e u.fits) in
      let key = same_Some u.key h.1 (sym u.known ∙ ap (λ (z : Envelope). key_of roster z.signer) (sym same) ∙ h.3) in
      h.4 (subst (λ (z : Envelope). Signs (digest_of roster) h.1 z) (sym same) (subst (λ (k : List ℕ). Signs (digest_of roster) k e) key u.verifies))
  unseals_open b reasons.NoMemory other u h = other refl

  no_payload : (fault : RecordFault) (p : Payload) → ◌≡◌ {A = Result Payload RecordFault} (Err fault) (Ok p) → ⊥
  no_payload fault p h = absurd cc

  same_payload : (p q : Payload) → ◌≡◌ {A = Result Payload RecordFault} (Ok p) (Ok q) → p ≡ q
  same_payload p q h = cc

  closed_says : (p : Payload) (fault : PayloadFault) (b : List ℕ) → payloads.Plain b ≡ p → Unseals roster b who s → IsClosed roster p fault → ⊥
  closed_says p fault b same u h =
      let closed = subst (λ (q : Payload). IsClosed roster q fault) (sym same) h in
      unseals_open b closed.0 closed.1 u closed.2

  pub unopened_says : (fault : PayloadFault) → fault ≢ faults.NoMemory → IsUnopenedPayload roster bytes fault → Says roster bytes who s → ⊥
  unopened_says fault other h says =
      let p = payloads.Plain says.envelope in
      let read : payload_of bytes ≡ Ok p = ap payload_of says.is.spelled ∙ payload_again p says.is.fits in
      elim h [
        | inl memory ↦ other memory
        | inr rest ↦ elim rest [
          | inl form ↦ no_payload form.0.0 p (sym form.0.2 ∙ read)
          | inr closed ↦ closed_says closed.0 fault says.envelope (same_payload p closed.0 (sym read ∙ closed.1)) says.unseals closed.2
        ]
      ]

  -- ---- a submission payload

  unsubmitted : (p : Payload) (fault : PayloadFault) (cipher : List Bool) (b : List ℕ) → payloads.Submission cipher b ≡ p → IsSubmission s → Unseals roster b who s
      → IsClosed roster p fault → ⊥
  unsubmitted p fault cipher b same is u h =
      let closed = subst (λ (q : Payload). IsClosed roster q fault) (sym same) h in
      elim closed [
        | inl envelope ↦ unseals_open b envelope.0 envelope.1 u envelope.2
        | inr other ↦
            let o = other.0.1 in
            let one = unsealed_once roster b other.0.0.signer who other.0.0.statement s
            (subst (λ (e : List ℕ). Unseals roster e other.0.0.signer other.0.0.statement) o.2 (said_unseals roster other.0.0 o.0 o.1)) u in
            other.0.2 (subst IsOfSubmission (sym one.1) (submission_there s is))
      ]

  pub unopened_submits : (cipher : List Bool) (fault : PayloadFault) → fault ≢ faults.NoMemory → IsUnopenedPayload roster bytes fault → Submits roster bytes who s cipher → ⊥
  unopened_submits cipher fault other h submits =
      let p : Payload = payloads.Submission cipher submits.envelope in
      let read : payload_of bytes ≡ Ok p = ap payload_of submits.is.spelled ∙ payload_again p submits.is.fits in
      elim h [
        | inl memory ↦ other memory
        | inr rest ↦ elim rest [
          | inl form ↦ no_payload form.0.0 p (sym form.0.2 ∙ read)
          | inr closed ↦ unsubmitted closed.0 fault cipher submits.envelope (same_payload p closed.0 (sym read ∙ closed.1)) submits.submission submits.unseals closed.2
        ]
      ]
