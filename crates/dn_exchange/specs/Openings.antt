-- What a server keeps true of its openings, beside what its rounds ask.
use Rattle.std.specs.Prelude.{◌≡◌, Some}
use Rattle.dn_record_types.specs.declared.statement.Statement.TheVariants as kinds
use Rattle.dn_seal.specs.Signer.{CanSign}
use Rattle.dn_server.specs.declared.run.Sum.{Sum}
use Rattle.dn_server.specs.Server.{ServerView, itself}
use Rattle.dn_openings.specs.Open.{CanOpen}

-- what the server would show of the sum of its round fits into an envelope
abbrev pub SumFits : ServerView → Type 0
SumFits v = (sum : Sum) → v.run.sum ≡ Some sum → CanSign (itself v) (kinds.Shown v.run.r sum.s sum.own)

-- it can open places by what it keeps, and by what it will keep of its round
pub record IsOpen (v : ServerView) : Type 0 where
  pub can : CanOpen v
  pub sum : SumFits v
