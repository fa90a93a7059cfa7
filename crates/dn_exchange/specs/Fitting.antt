-- What a server that isn't bent keeps true of its envelopes and of its sum.
use Rattle.std.specs.Prelude.{◌≡◌, Contains, Some}
use Rattle.dn_record_types.specs.declared.statement.Statement.{Statement}
use Rattle.dn_seal.specs.Signer.{CanSign}
use Rattle.dn_server.specs.declared.run.Sum.{Sum}
use Rattle.dn_server.specs.Server.{ServerView, itself}
use Rattle.dn_exchange.specs.Disciplined.{commit_to}

-- each statement that it signed fits into an envelope, and it has committed itself to the ciphertext of the record
pub record SignsWhatFits (v : ServerView) : Type 0 where
  pub fits : (s : Statement) → Contains v.signed s → CanSign (itself v) s
  pub committed : (sum : Sum) → v.run.sum ≡ Some sum → Contains v.signed (commit_to v.seat v.run.r sum.s)
