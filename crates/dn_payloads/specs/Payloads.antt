-- The payloads of a run.
use Rattle.std.specs.Prelude.{◌≡◌, ℕ, Bool, true, false, List, [], ◌∷◌, ◌++◌, length, map, Contains, Some, slice_get}
use Rattle.dn_record_types.specs.declared.payload.Payload.{Payload}
use Rattle.dn_records.specs.Records.{payload_bytes, IsPayload}
use Rattle.dn_roster.specs.Roster.{RosterView}
use Rattle.dn_cert.specs.declared.payload_fault.PayloadFault.{PayloadFault}
use Rattle.dn_cert.specs.declared.payload_fault.PayloadFault.TheVariants as faults
use Rattle.dn_cert.specs.Opening.{IsOpened, IsUnopenedPayload}
use Rattle.dn_payloads.specs.declared.content.Content.{Content}
use Rattle.dn_payloads.specs.declared.content.Content.TheVariants as contents
use Rattle.dn_payloads.specs.declared.payloads.Numbered.{Numbered}

-- bytes that were put, and what they open to
pub record PayloadView : Type 0 where
  pub bytes : List ℕ
  pub content : Content

-- the roster under which payloads open, and the payloads by number
pub record PayloadsView : Type 0 where
  pub roster : RosterView
  pub items : List PayloadView

-- what the bytes open to under the roster, or the first reason why they don't
abbrev pub IsContent : RosterView → List ℕ → Content → Type 0
IsContent roster bytes (contents.Opened x) = (p : Payload) × IsPayload p × (bytes ≡ payload_bytes p) × IsOpened roster p x
IsContent roster bytes contents.Form = IsUnopenedPayload roster bytes faults.Form
IsContent roster bytes contents.Stranger = IsUnopenedPayload roster bytes faults.Stranger
IsContent roster bytes contents.Signature = IsUnopenedPayload roster bytes faults.Signature

-- payload p is there, and is so
abbrev pub IsFound : PayloadsView → ℕ → (PayloadView → Type 0) → Type 0
IsFound v p is = (x : PayloadView) × (slice_get v.items p ≡ Some x) × is x × IsContent v.roster x.bytes x.content

-- The number that bytes have: they were put before, and nothing changes; or they are put for the first time, and stand last.
abbrev pub IsNumberedBy : PayloadsView → List ℕ → PayloadsView → ℕ → Bool → Type 0
IsNumberedBy old bytes new number false = (new ≡ old) × (x : PayloadView) × (slice_get old.items number ≡ Some x) × (x.bytes ≡ bytes)
IsNumberedBy old bytes new number true =
    (¬ Contains (map (λ x. x.bytes) old.items) bytes) × (number ≡ length old.items)
    × (x : PayloadView) × (x.bytes ≡ bytes) × IsContent old.roster bytes x.content × (new ≡ record old { items = old.items ++ x ∷ [] })

abbrev pub IsNumbered : PayloadsView → List ℕ → PayloadsView → Numbered → Type 0
IsNumbered old bytes new n = IsNumberedBy old bytes new n.number n.is_new
