-- What the events of a run say with their outcomes: which bytes were put by whom, and what became of each message.
use Rattle.std.specs.Prelude.{◌≡◌, ℕ, ◌==◌, Bool, true, false, not, List, [], ◌∷◌, ◌++◌, filter, slice_index_or, if◌then◌else◌, ◌<◌, length, Contains}
use Rattle.std.specs.List.{list_any}
use Rattle.dn_wire.specs.declared.ids.Member.{Member}
use Rattle.dn_wire.specs.declared.ids.Member.TheVariants as members
use Rattle.dn_report.specs.declared.event.Event.{Event}
use Rattle.dn_report.specs.declared.event.Event.TheVariants as events
use Rattle.dn_report.specs.declared.outcome.Outcome.{Outcome}
use Rattle.dn_report.specs.declared.outcome.Outcome.TheVariants as outcomes
use Rattle.dn_report.specs.declared.words.IgnoredWord.TheVariants as ignored
use Rattle.dn_headline.specs.Group.{is_member}

-- an event with its outcomes
pub record Step : Type 0 where
  pub event : Event
  pub outcomes : List Outcome

-- bytes that a member put, by its own core or by an Inject
pub record Put : Type 0 where
  pub by : Member
  pub own : Bool
  pub bytes : List ℕ

-- a message to a member, sent by the sender's own core or by an Inject
pub record Message : Type 0 where
  pub from : Member
  pub to : Member
  pub own : Bool
  pub bytes : List ℕ

-- The payloads by number, all that was put, in order, and the messages by number. Of the messages: the numbers of those in flight, those
-- that were delivered other than early, and those that were lost, by a Lose or to a full flight.
pub record Log : Type 0 where
  pub payloads : List (List ℕ)
  pub puts : List Put
  pub sent : List Message
  pub flight : List ℕ
  pub delivered : List Message
  pub lost : List Message

abbrev pub no_log : Log
no_log = record { payloads = []; puts = []; sent = []; flight = []; delivered = []; lost = [] }

-- a stand-in where there is no member: for the actor of an event by which nobody sends, and for a number that no message has
abbrev pub nobody : Member
nobody = members.Server (record { 0 = 0 })

-- message number id
abbrev pub message_of : Log → ℕ → Message
message_of log id = slice_index_or log.sent id (record { from = nobody; to = nobody; own = false; bytes = [] })

-- Who puts what an event's outcomes tell. In a tick that is told by the line of the server that closed.
abbrev pub actor_of : Log → Event → Member
actor_of log (events.Say client text) = members.Client client
actor_of log (events.OpenRound server r) = members.Server server
actor_of log (events.Close server) = members.Server server
actor_of log (events.Abandon server) = members.Server server
actor_of log (events.Submit client server r) = members.Client client
actor_of log (events.Deliver id) = (message_of log id).to
actor_of log (events.Lose id) = nobody
actor_of log events.Tick = nobody
actor_of log (events.Leave client) = members.Client client
actor_of log (events.Accuse client r k) = members.Client client
actor_of log (events.Judge r k) = nobody
actor_of log (events.Inject from to payload) = from

abbrev pub is_own : Event → Bool
is_own (events.Inject from to payload) = false
is_own _ = true

abbrev pub actor_after : Member → Outcome → Member
actor_after actor (outcomes.Closed server r count) = members.Server server
actor_after actor _ = actor

-- the log with one message more, in flight or lost
abbrev pub with_message : Log → Message → Bool → ℕ → Log
with_message log m flies id = record log {
  puts = log.puts ++ record { by = m.from; own = m.own; bytes = m.bytes } ∷ [];
  sent = if flies then log.sent ++ m ∷ [] else log.sent;
  flight = if flies then log.flight ++ id ∷ [] else log.flight;
  lost = if flies then log.lost else log.lost ++ m ∷ [];
}

abbrev pub message_to : Log → Member → Bool → ℕ → Member → Message
message_to log actor own payload to = record { from = actor; to = to; own = own; bytes = slice_index_or log.payloads payload [] }

-- the log after one outcome of an event by this actor
unfoldable pub with_outcome : Bool → Member → Log → Outcome → Log
with_outcome own actor log (outcomes.Post payload by bytes) = record log {
  payloads = log.payloads ++ bytes ∷ [];
  puts = log.puts ++ record { by = by; own = own; bytes = bytes } ∷ [];
}
with_outcome own actor log (outcomes.Sent id payload to) = with_message log (message_to log actor own payload to) true id
with_outcome own actor log (outcomes.Full payload to) = with_message log (message_to log actor own payload to) false 0
with_outcome own actor log _ = log

unfoldable pub with_outcomes : Bool → Member → Log → List Outcome → Log
with_outcomes own actor log [] = log
with_outcomes own actor log (o ∷ os) = with_outcomes own (actor_after actor o) (with_outcome own actor log o) os

abbrev pub is_early_or_none : Outcome → Bool
is_early_or_none outcomes.Early = true
is_early_or_none (outcomes.Ignored ignored.None) = true
is_early_or_none _ = false

abbrev pub without : List ℕ → ℕ → List ℕ
without ids id = filter (λ k. not (k == id)) ids

-- the log after the message that an event takes out of flight
abbrev pub with_removal : Log → Event → List Outcome → Log
with_removal log (events.Deliver id) os =
    if list_any is_early_or_none os then log
    else record log { flight = without log.flight id; delivered = log.delivered ++ message_of log id ∷ [] }
with_removal log (events.Lose id) os =
    if list_any (λ k. k == id) log.flight then record log { flight = without log.flight id; lost = log.lost ++ message_of log id ∷ [] }
    else log
with_removal log (events.Leave client) os =
    record log { flight = filter (λ id. not (is_member (message_of log id).from (members.Client client))) log.flight }
with_removal log _ os = log

abbrev pub with_step : Log → Step → Log
with_step log s = with_outcomes (is_own s.event) (actor_of log s.event) (with_removal log s.event s.outcomes) s.outcomes

unfoldable pub with_steps : Log → List Step → Log
with_steps log [] = log
with_steps log (s ∷ ss) = with_steps (with_step log s) ss

-- the log of a run
abbrev pub log_of : List Step → Log
log_of history = with_steps no_log history

-- ---- runs whose numbers are right

-- the number that an outcome gives to a payload or a message is the next one
abbrev pub IsNext : Log → Outcome → Type 0
IsNext log (outcomes.Post payload by bytes) = payload ≡ length log.payloads
IsNext log (outcomes.Sent id payload to) = id ≡ length log.sent
IsNext log _ = Unit {0}

-- the outcomes give payloads and messages the numbers that come next
abbrev pub AreNumbered : Bool → Member → Log → List Outcome → Type 0
AreNumbered own actor log [] = Unit {0}
AreNumbered own actor log (o ∷ os) = IsNext log o × AreNumbered own (actor_after actor o) (with_outcome own actor log o) os

-- a step's numbers are right, and a message that it delivers is in flight
pub record IsOrderly (log : Log) (s : Step) : Type 0 where
  pub numbered : AreNumbered (is_own s.event) (actor_of log s.event) (with_removal log s.event s.outcomes) s.outcomes
  pub delivers : (id : ℕ) → s.event ≡ events.Deliver id → list_any is_early_or_none s.outcomes ≡ false → Contains log.flight id

-- what a message carries was put, and the messages in flight were sent
pub record IsSoundLog (log : Log) : Type 0 where
  pub sent : (m : Message) → Contains log.sent m → (p : Put) × Contains log.puts p × (p.bytes ≡ m.bytes)
  pub flies : (id : ℕ) → Contains log.flight id → id < length log.sent
