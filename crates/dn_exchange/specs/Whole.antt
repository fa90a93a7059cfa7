-- All that a server keeps true from call to call.
use Rattle.std.specs.Prelude.{◌≡◌, false}
use Rattle.dn_server.specs.Server.{ServerView}
use Rattle.dn_exchange.specs.Fitting.{SignsWhatFits}
use Rattle.dn_exchange.specs.Honest.{IsTrue}
use Rattle.dn_exchange.specs.Invariant.{IsSound}
use Rattle.dn_exchange.specs.Openings.{IsOpen}

-- it is sound, also in its openings; and unless it is bent, it is true to all that it signed, and signs what fits
pub record IsWhole (v : ServerView) : Type 0 where
  pub sound : IsSound v
  pub openings : IsOpen v
  pub straight : v.bent ≡ false → IsTrue v
  pub signs : v.bent ≡ false → SignsWhatFits v
