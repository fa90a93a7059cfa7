-- What contracts see of a signer, and what it seals.
use Rattle.std.specs.Prelude.{◌≡◌, ◌<◌, ℕ, List, [], ◌∷◌, ◌++◌, ◌⊎◌}
use Rattle.std.specs.Int.{w32, to_be_bytes}
use Rattle.dn_wire.specs.Signer.{signer_bytes}
use Rattle.dn_wire.specs.declared.ids.SignerId.{SignerId}
use Rattle.dn_record_types.specs.declared.statement.Statement.{Statement}
use Rattle.dn_records.specs.Records.{statement_bytes, envelope_bytes, IsEnvelope}
use Rattle.dn_record_types.specs.declared.envelope.Envelope.{Envelope}
use Rattle.dn_lms.specs.Key.{Key}
use Rattle.dn_lms.specs.Signature.{lms_signature}
use Rattle.dn_leaf.specs.Drawer.{DrawerId}
use Rattle.dn_roster.specs.Roster.{RosterView, digest_of, signed_bytes_of}

-- its key, and the drawer of the key's leaves
pub record SignerView (K : Type 0) : Type 0 where
  pub key : K
  pub drawer : DrawerId

abbrev pub envelope : SignerId → Statement → List ℕ → Envelope
envelope who s signature = record { signer = who; statement = s; signature = signature }

-- what stands before a statement of so many bytes in its envelope
abbrev pub heading : SignerId → ℕ → List ℕ
heading who long = signer_bytes who ++ to_be_bytes w32 long

-- a statement that can stand in an envelope
abbrev pub CanSign : SignerId → Statement → Type 0
CanSign who s = IsEnvelope (envelope who s [])

-- nothing was drawn, or one leaf below the count
abbrev pub IsLeafLost : ℕ → List ℕ → List ℕ → Type 0
IsLeafLost count old new = (new ≡ old) ⊎ ((q : ℕ) × (q < count) × (new ≡ old ++ q ∷ []))

-- the bytes of the envelope that this key makes at leaf q, in the group with this digest
abbrev pub sealed_in : List ℕ → SignerId → Key → ℕ → Statement → List ℕ
sealed_in digest who key q s =
    envelope_bytes (envelope who s (lms_signature key q (signed_bytes_of digest who (statement_bytes s))))

-- in the group of this roster
abbrev pub sealed_bytes : RosterView → SignerId → Key → ℕ → Statement → List ℕ
sealed_bytes roster who key q s = sealed_in (digest_of roster) who key q s
