-- What an envelope's statement carries, and the submissions that it lists.
use Rattle.std.specs.Prelude.{ℕ, List, Option, Some, None}
use Rattle.dn_record_types.specs.declared.envelope.Envelope.{Envelope}
use Rattle.dn_record_types.specs.declared.statement.Statement.{Statement}
use Rattle.dn_record_types.specs.declared.statement.Statement.TheVariants as kinds
use Rattle.dn_audit.specs.Signatures.{IsEnvelopeOf}

-- the envelope in a rebuttal
abbrev pub carried_of : Statement → Option (List ℕ)
carried_of (kinds.Rebuttal r k j seed e) = Some e
carried_of _ = None

abbrev pub submission_of : ℕ → ℕ → ℕ → List ℕ → Statement
submission_of r prev client digest = kinds.Submission (record { 0 = r }) (record { 0 = prev }) (record { 0 = client }) digest

-- the envelope that the bytes are; none where they are no envelope
abbrev pub IsEnvelopeIn : List ℕ → Option Envelope → Type 0
IsEnvelopeIn bytes None = (e : Envelope) → IsEnvelopeOf bytes e → ⊥
IsEnvelopeIn bytes (Some e) = IsEnvelopeOf bytes e
