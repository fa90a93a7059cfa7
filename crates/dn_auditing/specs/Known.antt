-- What an auditor knows that was told of all that was put.
use Rattle.std.specs.Prelude.{◌≡◌, ◌↔◌, ◌⊎◌, ℕ, true, IsTrue, Bool, List, Contains, Some}
use Rattle.dn_wire.specs.declared.ids.SignerId.{SignerId}
use Rattle.dn_record_types.specs.declared.statement.Statement.{Statement}
use Rattle.dn_records.specs.Records.{statement_bytes}
use Rattle.dn_roster.specs.Roster.{RosterView, key_of, digest_of, signed_bytes_of}
use Rattle.dn_seal.specs.Signer.{CanSign}
use Rattle.dn_audit.specs.Auditor.{AuditorView, RunStrings, TellsOf, HasSigned}
use Rattle.dn_audit.specs.Group.{GroupView as Marked, IsHonestKey as IsUnmarkedKey}
use Rattle.dn_headline.specs.Group.{GroupView, IsHonestKey, IsKeyOf}
use Rattle.dn_headline.specs.Log.{Put}
use Rattle.dn_headline.specs.Run.{RunView, SumMade, log}
use Rattle.dn_headline.specs.Spoken.{IsInFront}
use Rattle.dn_auditing.specs.Puts.{WasPut, AreTheirs}
use Rattle.dn_auditing.specs.Shows.{AreStringsOf}

-- of the keys in the roster the same ones are honest in the group of the run and in the auditor's
abbrev pub MarksKeys : GroupView → Marked → Type 0
MarksKeys g marked = (who : SignerId) (key : List ℕ) → key_of g.roster who ≡ Some key → IsHonestKey g who ↔ IsUnmarkedKey marked who

-- The auditor knows whether each signature in what was put is theirs, what was signed, and the strings. Where a signature isn't theirs, it may know
-- more statements to be signed than were.
pub record Knows (g : GroupView) (puts : List Put) (made : List SumMade) (auditor : AuditorView) : Type 0 where
  pub theirs : IsTrue auditor.are_theirs ↔ AreTheirs g puts
  pub signed : (who : SignerId) (s : Statement) → WasPut g puts who s → HasSigned auditor.signed g.roster who s
  pub only : IsTrue auditor.are_theirs → (who : SignerId) (s : Statement) → CanSign who s → IsHonestKey g who → HasSigned auditor.signed g.roster who s
      → WasPut g puts who s
  pub strings : RunStrings
  pub are : AreStringsOf g puts made strings
  pub tells : TellsOf auditor strings

-- it knows so of a run
abbrev pub KnowsRun : RunView → AuditorView → Type 0
KnowsRun w auditor = Knows w.group (log w).puts w.sums auditor

-- what it knows to be signed is what it knew, and the statement in front of what a member's own core puts
pub record NotesFront (roster : RosterView) (own : Bool) (bytes : List ℕ) (old new : AuditorView) : Type 0 where
  pub signed : (x : List ℕ) → Contains new.signed x ↔ (Contains old.signed x ⊎ ((own ≡ true) × (who : SignerId) × (s : Statement)
      × IsInFront roster bytes who s × (x ≡ signed_bytes_of (digest_of roster) who (statement_bytes s))))
  pub are_theirs : new.are_theirs ≡ old.are_theirs
  pub tells : (x : RunStrings) → TellsOf old x → TellsOf new x

-- in front of what a member's own core puts stands a statement by a key of its own
abbrev pub IsOwnFront : GroupView → Put → Type 0
IsOwnFront g p = p.own ≡ true → (who : SignerId) (s : Statement) → IsInFront g.roster p.bytes who s → IsKeyOf g who p.by
