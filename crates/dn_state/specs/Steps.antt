-- What comes of each event.
use Rattle.std.specs.Prelude.{◌≡◌, List, [], ◌∷◌}
use Rattle.dn_report.specs.declared.event.Event.{Event}
use Rattle.dn_report.specs.declared.event.Event.TheVariants as events
use Rattle.dn_report.specs.declared.outcome.Outcome.{Outcome}
use Rattle.dn_state.specs.declared.calling.Call.TheVariants as called
use Rattle.dn_state.specs.Parts.{PartsView}
use Rattle.dn_state.specs.Putting.{Puts}
use Rattle.dn_state.specs.Verdicts.{IsJudgedSo}
use Rattle.dn_state.specs.Doing.{Becomes, injecting}
use Rattle.dn_state.specs.Calling.{CallsServer, TicksAll, SaysText, Submits, AccusesAt, Leaves}
use Rattle.dn_state.specs.Delivering.{Delivers, without_message}

-- what an event makes of the parts, and the lines that are told
abbrev pub Steps : Event → PartsView → PartsView → List Outcome → Type 0
Steps (events.Say client text) = SaysText client text
Steps (events.OpenRound server r) = CallsServer (called.Open r) server
Steps (events.Close server) = CallsServer called.Close server
Steps (events.Abandon server) = CallsServer called.Abandon server
Steps (events.Submit client server r) = Submits client server r
Steps (events.Deliver id) = Delivers id
Steps (events.Lose id) = λ old. Becomes (without_message old id)
Steps events.Tick = TicksAll
Steps (events.Leave client) = Leaves client
Steps (events.Accuse client r k) = AccusesAt client r k
Steps (events.Judge r k) = λ old new lines. (new ≡ old) × IsJudgedSo old r k lines
Steps (events.Inject from to payload) = λ old. Puts old (injecting from) (to ∷ []) payload
