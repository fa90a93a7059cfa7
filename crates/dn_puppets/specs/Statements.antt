-- Statements as a twist changes them, and whether they can be signed.
use Rattle.std.specs.Prelude.{◌≡◌, ℕ, ◌^◌, ◌<◌, nat_lt, Bool, List, length, Option, Some, None, if◌then◌else◌}
use Rattle.dn_wire.specs.declared.ids.SignerId.{SignerId}
use Rattle.dn_wire.specs.Signer.{number_of}
use Rattle.dn_bits.specs.Bits.{flip_at}
use Rattle.dn_record_types.specs.declared.envelope.Envelope.{Envelope}
use Rattle.dn_record_types.specs.declared.payload.Payload.TheVariants as payloads
use Rattle.dn_record_types.specs.declared.statement.Statement.{Statement}
use Rattle.dn_records.specs.Records.{envelope_bytes, IsEnvelope, payload_bytes}
use Rattle.dn_seal.specs.Signer.{CanSign}

-- each signer can sign it
abbrev pub IsSignable : Statement → Type 0
IsSignable s = (who : SignerId) → number_of who < 2 ^ 32 → CanSign who s

-- the bytes are an envelope of the statement
abbrev pub IsStatedIn : List ℕ → Statement → Type 0
IsStatedIn bytes s = (e : Envelope) × IsEnvelope e × (bytes ≡ envelope_bytes e) × (e.statement ≡ s)

-- the bytes are a plain payload that carries an envelope of the statement
abbrev pub IsPlainlyStatedIn : List ℕ → Statement → Type 0
IsPlainlyStatedIn bytes s = (envelope : List ℕ) × (bytes ≡ payload_bytes (payloads.Plain envelope)) × IsStatedIn envelope s

-- the string with bit k turned, where it has it
abbrev pub turned_at : List Bool → ℕ → List Bool
turned_at bits k = if nat_lt k (length bits) then flip_at bits k else bits

-- with bit k turned, where one is asked for
abbrev pub turned_where : Option ℕ → List Bool → List Bool
turned_where (Some k) bits = turned_at bits k
turned_where None bits = bits
