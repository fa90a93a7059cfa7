-- What servers told a client of its submission, and which servers have received one.
use Rattle.std.specs.Prelude.{◌≡◌, ℕ, ◌⊎◌, Bool, List, Contains}
use Rattle.dn_wire.specs.declared.ids.ClientId.{ClientId}
use Rattle.dn_wire.specs.declared.ids.ServerId.{ServerId}
use Rattle.dn_wire.specs.declared.ids.Round.{Round}
use Rattle.dn_wire.specs.declared.ids.Member.TheVariants as members
use Rattle.dn_wire.specs.declared.ids.SignerId.TheVariants.{Client, Server}
use Rattle.dn_told.specs.declared.told.WindowTold.{WindowTold}
use Rattle.dn_told.specs.declared.told.WindowTold.TheVariants.{Included, Late}
use Rattle.dn_record_types.specs.declared.inventory.Entry.{Entry}
use Rattle.dn_record_types.specs.declared.inventory.Inventory.{Inventory}
use Rattle.dn_record_types.specs.declared.statement.Statement.TheVariants as kinds
use Rattle.dn_report.specs.declared.outcome.Outcome.TheVariants as outcomes
use Rattle.dn_cert.specs.Signed.{EntryVerifies}
use Rattle.dn_headline.specs.Group.{IsServer, IsHonestServer}
use Rattle.dn_headline.specs.Log.{Message}
use Rattle.dn_headline.specs.Run.{RunView, log, Happened}
use Rattle.dn_headline.specs.Spoken.{WasSaid, Submits}

-- server j told client i this in round r
abbrev pub WasTold : RunView → ServerId → ClientId → Round → WindowTold → Type 0
WasTold w j i r told = Happened w (outcomes.Told i j r told)

-- a submission of client i for round r was delivered to server j, other than early
pub record WasDelivered (w : RunView) (j : ServerId) (i : ClientId) (r : Round) : Type 0 where
  pub message : Message
  pub there : Contains (log w).delivered message
  pub to : message.to ≡ members.Server j
  pub prev : Round
  pub digest : List ℕ
  pub cipher : List Bool
  pub submits : Submits w.group.roster message.bytes (Client i) (kinds.Submission r prev i digest) cipher

-- an inventory of server j that was put has an entry of client i for round r that verifies
pub record IsInInventory (w : RunView) (j : ServerId) (i : ClientId) (r : Round) : Type 0 where
  pub inventory : Inventory
  pub said : WasSaid w (Server j) (kinds.Inventory inventory)
  pub round : inventory.r ≡ r
  pub entry : Entry
  pub there : Contains inventory.entries entry
  pub client : entry.client ≡ i
  pub verifies : EntryVerifies w.group.roster inventory.r inventory.prev entry

-- server j has received a submission of client i for round r
abbrev pub HasReceived : RunView → ServerId → ClientId → Round → Type 0
HasReceived w j i r = WasDelivered w j i r ⊎ IsInInventory w j i r

-- Some server told the client Late; and each server that has received a submission of its for the round is honest, and didn't tell it
-- Included.
pub record IsOnlyLate (w : RunView) (i : ClientId) (r : Round) : Type 0 where
  pub by : ServerId
  pub honest : IsHonestServer w.group by
  pub late : WasTold w by i r Late
  pub received : (j : ServerId) → IsServer w.group j → HasReceived w j i r → IsHonestServer w.group j × (¬ WasTold w j i r Included)
