-- What can stand in the payload of a certificate or a challenge.
use Rattle.std.specs.Prelude.{ℕ, ◌^◌, ◌<◌, List, length, All}
use Rattle.dn_record_types.specs.declared.body.Body.{Body}
use Rattle.dn_records.specs.Records.{body_bytes, IsBody}

-- a body of which a certificate can be
pub record CanStand (b : Body) : Type 0 where
  pub is_body : IsBody b
  pub few : length (body_bytes b) < 2 ^ 32

-- signatures whose number of bytes a certificate can tell
abbrev pub AreShort : List (List ℕ) → Type 0
AreShort signatures = All (λ s. length s < 2 ^ 16) signatures

-- the number of each envelope's bytes is one that a challenge can tell
abbrev pub AreTellable : List (List ℕ) → Type 0
AreTellable envelopes = All (λ e. length e < 2 ^ 32) envelopes
