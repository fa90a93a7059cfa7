-- What a server's key signs for its caller, beside the rules.
use Rattle.std.specs.Prelude.{◌≡◌, ℕ, true, List, length}
use Rattle.dn_record_types.specs.declared.statement.Statement.{Statement}
use Rattle.dn_lms.specs.Key.{leaf_count}
use Rattle.dn_seal.specs.declared.signer.SealFault.{SealFault}
use Rattle.dn_seal.specs.declared.signer.SealFault.TheVariants as faults
use Rattle.dn_server.specs.Server.{ServerView, sealed_next, with_signed}
use Rattle.dn_rounds.specs.Going.{HasLeaf}

-- The envelope is that of the statement, at the next leaf, be it set aside or not; the statement joins what the server signed, and the server is
-- bent from then on.
pub record SignsNext (v : ServerView) (s : Statement) (envelope : List ℕ) (after : ServerView) : Type 0 where
  pub leaf : HasLeaf v
  pub sealed : envelope ≡ sealed_next v s
  pub signed : after ≡ record (with_signed v s) { bent = true }

-- Why nothing is sealed: no leaf is left, and the server is bent all the same; or memory is wanting, after which nothing is said of the server.
abbrev pub SignsNothing : ServerView → SealFault → ServerView → Type 0
SignsNothing v (faults.Exhausted seen) after = (length v.signed ≡ leaf_count v.key) × (seen ≡ leaf_count v.key) × (after ≡ record v { bent = true })
SignsNothing v faults.NoMemory after = Unit {0}
