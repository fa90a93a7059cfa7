-- The words of an audit.
use Rattle.std.specs.Prelude.{◌↔◌, IsTrue, Bool}
use Rattle.dn_audit.specs.Auditor.{AuditorView, RunStrings, TellsOf, NoStringsCollide}
use Rattle.dn_headline.specs.Run.{RunView}
use Rattle.dn_headline.specs.Clean.{SignaturesAreTheirs, DigestsDiffer}

-- The two words of the auditor are yes exactly where the run's signatures are theirs, and where its digests differ.
pub record TellsRight (w : RunView) (auditor : AuditorView) : Type 0 where
  pub signed : IsTrue auditor.are_theirs ↔ SignaturesAreTheirs w
  pub digests : (yes : Bool) → ((x : RunStrings) → TellsOf auditor x → IsTrue yes ↔ NoStringsCollide x) → IsTrue yes ↔ DigestsDiffer w
