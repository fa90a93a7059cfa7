-- Rounds in which all servers are honest and all their messages arrived.
use Rattle.std.specs.Prelude.{◌≡◌, ℕ, ◌⊎◌, true, Contains}
use Rattle.dn_wire.specs.declared.ids.ServerId.{ServerId}
use Rattle.dn_wire.specs.declared.ids.Round.{Round}
use Rattle.dn_wire.specs.declared.ids.Member.TheVariants as members
use Rattle.dn_wire.specs.declared.ids.SignerId.TheVariants.{Server}
use Rattle.dn_record_types.specs.declared.statement.Statement.{Statement}
use Rattle.dn_record_types.specs.declared.statement.Statement.TheVariants as kinds
use Rattle.dn_report.specs.declared.outcome.Outcome.TheVariants as outcomes
use Rattle.dn_report.specs.declared.words.SpoilWord.{SpoilWord}
use Rattle.dn_headline.specs.Group.{IsServer, IsHonestServer}
use Rattle.dn_headline.specs.Log.{Message, message_of}
use Rattle.dn_headline.specs.Run.{RunView, log, Happened}
use Rattle.dn_headline.specs.Spoken.{Says}

-- the round of an inventory, a commitment, a ciphertext shown, or a signed body; of other statements none
abbrev pub IsPhaseOf : Round → Statement → Type 0
IsPhaseOf r (kinds.Inventory v) = v.r ≡ r
IsPhaseOf r (kinds.Commit q digest) = q ≡ r
IsPhaseOf r (kinds.Reveal q sum) = q ≡ r
IsPhaseOf r (kinds.Sign b) = b.r ≡ r
IsPhaseOf r _ = ⊥

-- the message is a server's own, to another server, and carries such a statement of the round
pub record IsPhaseMessage (w : RunView) (r : Round) (m : Message) : Type 0 where
  pub from : ServerId
  pub to : ServerId
  pub sender : m.from ≡ members.Server from
  pub receiver : m.to ≡ members.Server to
  pub own : m.own ≡ true
  pub statement : Statement
  pub says : Says w.group.roster m.bytes (Server from) statement
  pub phase : IsPhaseOf r statement

-- the server's window of the round isn't open any more: it closed, or the run of the round ended
abbrev pub IsWindowOver : RunView → ServerId → Round → Type 0
IsWindowOver w j r =
    ((count : ℕ) × Happened w (outcomes.Closed j r count))
    ⊎ ((by : ServerId) × (reason : SpoilWord) × Happened w (outcomes.Spoiled j r by reason))
    ⊎ Happened w (outcomes.Held (members.Server j) r)

-- the server holds a certificate of the round
abbrev pub HasCertificate : RunView → ServerId → Round → Type 0
HasCertificate w j r = Happened w (outcomes.Certified j r) ⊎ Happened w (outcomes.Held (members.Server j) r)

-- All servers are honest and opened the round on one prev, each window of it is over, no server abandoned it, and no message of it that
-- one server sent to another is lost or in flight.
pub record IsFullyDelivered (w : RunView) (r : Round) : Type 0 where
  pub honest : (j : ServerId) → IsServer w.group j → IsHonestServer w.group j
  pub prev : Round
  pub opened : (j : ServerId) → IsServer w.group j → Happened w (outcomes.Opened j r prev)
  pub over : (j : ServerId) → IsServer w.group j → IsWindowOver w j r
  pub kept_on : (j : ServerId) → IsServer w.group j → ¬ Happened w (outcomes.Abandoned j r)
  pub not_lost : (m : Message) → Contains (log w).lost m → ¬ IsPhaseMessage w r m
  pub arrived : (id : ℕ) → Contains (log w).flight id → ¬ IsPhaseMessage w r (message_of (log w) id)
