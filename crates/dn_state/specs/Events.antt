-- Events that may happen.
use Rattle.std.specs.Prelude.{◌≤◌, length}
use Rattle.dn_wire.specs.declared.ids.Round.{Round}
use Rattle.dn_wire.specs.declared.limits.TheConstants.{MAX_TEXT, MAX_ROUND}
use Rattle.dn_report.specs.declared.event.Event.{Event}
use Rattle.dn_report.specs.declared.event.Event.TheVariants as events

-- a round that a script can name
abbrev pub IsRound : Round → Type 0
IsRound r = (1 ≤ r.0) × (r.0 ≤ MAX_ROUND)

-- the event's rounds and its text are within their limits
abbrev pub IsWithinLimits : Event → Type 0
IsWithinLimits (events.Say client text) = length text ≤ MAX_TEXT
IsWithinLimits (events.OpenRound server r) = IsRound r
IsWithinLimits (events.Close server) = Unit {0}
IsWithinLimits (events.Abandon server) = Unit {0}
IsWithinLimits (events.Submit client server r) = IsRound r
IsWithinLimits (events.Deliver id) = Unit {0}
IsWithinLimits (events.Lose id) = Unit {0}
IsWithinLimits events.Tick = Unit {0}
IsWithinLimits (events.Leave client) = Unit {0}
IsWithinLimits (events.Accuse client r k) = IsRound r
IsWithinLimits (events.Judge r k) = IsRound r
IsWithinLimits (events.Inject from to payload) = Unit {0}
