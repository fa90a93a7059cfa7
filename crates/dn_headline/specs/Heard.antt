-- What a judge hears: what servers said, and what reached a server.
use Rattle.std.specs.Prelude.{◌≡◌, Contains}
use Rattle.dn_wire.specs.declared.ids.ServerId.{ServerId}
use Rattle.dn_wire.specs.declared.ids.Member.TheVariants as members
use Rattle.dn_wire.specs.declared.ids.SignerId.{SignerId}
use Rattle.dn_wire.specs.declared.ids.SignerId.TheVariants.{Client, Server, Slot}
use Rattle.dn_record_types.specs.declared.statement.Statement.{Statement}
use Rattle.dn_headline.specs.Log.{Message}
use Rattle.dn_headline.specs.Run.{RunView, log}
use Rattle.dn_headline.specs.Spoken.{WasSaid, IsInFront}

-- a payload with this statement in front was delivered to a server, other than early
pub record ReachedAServer (w : RunView) (who : SignerId) (s : Statement) : Type 0 where
  pub message : Message
  pub there : Contains (log w).delivered message
  pub server : ServerId
  pub to : message.to ≡ members.Server server
  pub front : IsInFront w.group.roster message.bytes who s

-- the envelopes that are handed to the judge: those of servers that were put, and those of clients and slots that reached a server
abbrev pub IsHeard : RunView → SignerId → Statement → Type 0
IsHeard w (Server j) s = WasSaid w (Server j) s
IsHeard w (Client i) s = ReachedAServer w (Client i) s
IsHeard w (Slot k) s = ReachedAServer w (Slot k) s
