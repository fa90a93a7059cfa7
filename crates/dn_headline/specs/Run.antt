-- A run: its group, its events with their outcomes, and the strings that honest members made in it.
use Rattle.std.specs.Prelude.{Bool, List, Contains}
use Rattle.dn_wire.specs.declared.ids.ClientId.{ClientId}
use Rattle.dn_wire.specs.declared.ids.ServerId.{ServerId}
use Rattle.dn_wire.specs.declared.ids.Round.{Round}
use Rattle.dn_report.specs.declared.outcome.Outcome.{Outcome}
use Rattle.dn_headline.specs.Group.{GroupView}
use Rattle.dn_headline.specs.Log.{Step, Log, log_of}

-- the plain text that an honest client made in a round, by the client rule
pub record PlainMade : Type 0 where
  pub client : ClientId
  pub r : Round
  pub prev : Round
  pub plain : List Bool

-- the ciphertext that an honest server made in a round, from its commitment on
pub record SumMade : Type 0 where
  pub server : ServerId
  pub r : Round
  pub sum : List Bool

pub record RunView : Type 0 where
  pub group : GroupView
  pub history : List Step
  pub plains : List PlainMade
  pub sums : List SumMade

abbrev pub log : RunView → Log
log w = log_of w.history

-- an outcome of the run
abbrev pub Happened : RunView → Outcome → Type 0
Happened w o = (s : Step) × Contains w.history s × Contains s.outcomes o
