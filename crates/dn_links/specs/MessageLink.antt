-- What a call does to messages.
use Rattle.std.specs.Prelude.{◌≡◌, ◌≢◌, ◌≤◌, ℕ, true, false, List, Contains}
use Rattle.std.specs.List.{list_any}
use Rattle.dn_wire.specs.declared.ids.ServerId.{ServerId}
use Rattle.dn_wire.specs.declared.ids.Round.{Round}
use Rattle.dn_wire.specs.declared.ids.Member.{Member}
use Rattle.dn_record_types.specs.declared.statement.Statement.{Statement}
use Rattle.dn_seal.specs.Said.{SaidView}
use Rattle.dn_server.specs.Server.{ServerView}
use Rattle.dn_report.specs.declared.event.Event.TheVariants as events
use Rattle.dn_report.specs.declared.outcome.Outcome.{Outcome}
use Rattle.dn_headline.specs.Group.{IsHonestServer}
use Rattle.dn_headline.specs.Log.{Step, Log, Message, message_of, is_early_or_none, with_outcomes, with_step, AreNumbered, IsOrderly, IsSoundLog}
use Rattle.dn_headline.specs.Run.{RunView, log}
use Rattle.dn_headline.specs.Delivered.{IsPhaseOf}
use Rattle.dn_headline.specs.Invariant.{Facts, Carries, HasFate, Keeps, Runs}
use Rattle.dn_links.specs.Link.{StaysInRound}

-- a log after a call: by a step more, or, within a tick, by outcomes more
pub data LogMoves (old new : Log) : Type 0 where
  by_step : (s : Step) → IsOrderly old s → new ≡ with_step old s → LogMoves old new
  by_more : (actor : Member) (more : List Outcome) → AreNumbered true actor old more → new ≡ with_outcomes true actor old more → LogMoves old new

-- the call delivers the message, other than early
abbrev pub DeliversNow : (old new : Log) → LogMoves old new → Message → Type 0
DeliversNow old new (by_step s orderly is) m =
    (id : ℕ) × (s.event ≡ events.Deliver id) × (list_any is_early_or_none s.outcomes ≡ false) × (message_of old id ≡ m)
DeliversNow old new (by_more actor more numbered is) m = ⊥

-- a round's inventory, commitment, ciphertext or signed body that was delivered to a server, other than early, is of no round above the one that
-- it opened last
abbrev pub NoneAhead : RunView → ServerId → ServerView → Type 0
NoneAhead w j c = (x : ServerId) (r : Round) (s : Statement) (m : Message) → IsPhaseOf r s → Carries w x j s m → Contains (log w).delivered m → r.0 ≤ c.run.r.0

-- What the call did to messages: each such statement that a server signs is sent to each other server; while a server's round stays, what it
-- keeps stays, and a run that ended doesn't begin again; and what is delivered to a server, of no round above its last one, it keeps if it runs
-- that round after the call.
pub record MessagesCalled (w v : RunView) (f g : Facts) (lines : List Outcome) (fresh : ServerId → List Statement) (before after : ServerId → ServerView) : Type 0 where
  pub sound : IsSoundLog (log w)
  pub moves : LogMoves (log w) (log v)
  pub none_ahead : (j : ServerId) → IsHonestServer v.group j → NoneAhead w j (before j)
  pub sent : (x j : ServerId) (r : Round) (s : Statement) → IsHonestServer v.group x → IsHonestServer v.group j → x.0 ≢ j.0 → IsPhaseOf r s
      → Contains (fresh x) s → (m : Message) × Carries v x j s m × HasFate v m
  pub keeps_on : (j : ServerId) (said : SaidView) → IsHonestServer v.group j → StaysInRound v j (before j) (after j) lines
      → Contains (before j).run.kept said → Contains (after j).run.kept said
  pub runs_on : (j : ServerId) → IsHonestServer v.group j → StaysInRound v j (before j) (after j) lines → (after j).run.is_running ≡ true → (before j).run.is_running ≡ true
  pub hears : (x j : ServerId) (r : Round) (s : Statement) (m : Message) → IsHonestServer v.group j → IsPhaseOf r s → Carries v x j s m
      → DeliversNow (log w) (log v) moves m → Runs g j r → Keeps g j x s
  pub not_ahead : (x j : ServerId) (r : Round) (s : Statement) (m : Message) → IsHonestServer v.group j → IsPhaseOf r s → Carries v x j s m
      → DeliversNow (log w) (log v) moves m → r.0 ≤ (after j).run.r.0
