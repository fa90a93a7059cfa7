-- Opened challenges.
use Rattle.std.specs.Prelude.{◌≡◌, ◌<◌, ℕ, List, [], length, map, take, All, slice_index_or}
use Rattle.dn_record_types.specs.declared.payload.Payload.{Payload}
use Rattle.dn_record_types.specs.declared.payload.Payload.TheVariants as payloads
use Rattle.dn_roster.specs.Roster.{RosterView}
use Rattle.dn_seal.specs.declared.unopened.Unopened.{Unopened}
use Rattle.dn_seal.specs.Said.{SaidView, IsSaid, IsUnder, IsUnopened}

abbrev pub IsChallenge : Payload → Type 0
IsChallenge (payloads.Submission cipher envelope) = ⊥
IsChallenge (payloads.Plain envelope) = ⊥
IsChallenge (payloads.Certificate body signatures) = ⊥
IsChallenge (payloads.Challenge r k envelopes) = Unit {0}

-- the envelopes of a challenge
abbrev pub envelopes_of : Payload → List (List ℕ)
envelopes_of (payloads.Submission cipher envelope) = []
envelopes_of (payloads.Plain envelope) = []
envelopes_of (payloads.Certificate body signatures) = []
envelopes_of (payloads.Challenge r k envelopes) = envelopes

-- the envelopes unsealed under the roster
pub record AreOpened (roster : RosterView) (envelopes : List (List ℕ)) (shown : List SaidView) : Type 0 where
  pub bytes : map (λ said. said.bytes) shown ≡ envelopes
  pub said : All IsSaid shown
  pub under : All (IsUnder roster) shown

-- the first of the envelopes that doesn't unseal, and why
pub record IsFirstUnopened (roster : RosterView) (envelopes : List (List ℕ)) (fault : Unopened) : Type 0 where
  pub at : ℕ
  pub within : at < length envelopes
  pub before : List SaidView
  pub opened : AreOpened roster (take at envelopes) before
  pub unopened : IsUnopened roster (slice_index_or envelopes at []) fault
