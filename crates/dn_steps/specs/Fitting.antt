-- What ties the parts of a world to the log of its run, and to its group.
use Rattle.std.specs.Prelude.{◌≡◌, ◌<◌, map, length, Contains, slice_get, Some}
use Rattle.dn_wire.specs.declared.ids.ServerId.{ServerId}
use Rattle.dn_wire.specs.declared.ids.Member.{Member}
use Rattle.dn_wire.specs.declared.ids.Member.TheVariants as members
use Rattle.dn_wire.specs.declared.ids.SignerId.{SignerId}
use Rattle.dn_wire.specs.declared.ids.SignerId.TheVariants.{Client, Server, Slot}
use Rattle.dn_record_types.specs.declared.payload.Payload.TheVariants as payloads
use Rattle.dn_roster.specs.Roster.{RosterView, IsRoster}
use Rattle.dn_seal.specs.Said.{SaidView, IsSaid, IsUnder}
use Rattle.dn_payloads.specs.Payloads.{PayloadView, PayloadsView, IsContent}
use Rattle.dn_flight.specs.declared.msg.Msg.{Msg}
use Rattle.dn_flight.specs.Flight.{FlightView}
use Rattle.dn_audit.specs.Group.{is_corrupt as is_marked}
use Rattle.dn_state.specs.Parts.{PartsView}
use Rattle.dn_headline.specs.Group.{GroupView, clients_of, servers_of, is_corrupt}
use Rattle.dn_headline.specs.Log.{Log, Message, Put, message_of}
use Rattle.dn_headline.specs.Spoken.{IsPayloadOf}
use Rattle.dn_headline.specs.Certified.{IsChainOf}
use Rattle.dn_links.specs.Judging.{HasInFront}

-- ---- the group

-- the member is one of the group
abbrev pub IsAmong : GroupView → Member → Type 0
IsAmong g (members.Client i) = i.0 < clients_of g
IsAmong g (members.Server j) = j.0 < servers_of g

-- the group of the run is that of the parts: its roster, under which payloads open, who owns its slots, and who of it is corrupt
pub record FitsGroup (g : GroupView) (parts : PartsView) : Type 0 where
  pub is_roster : IsRoster g.roster
  pub roster : parts.roster ≡ g.roster
  pub opens : parts.payloads.roster ≡ g.roster
  pub owners : parts.group.owners ≡ g.owners
  pub corrupt : (m : Member) → IsAmong g m → is_marked parts.group m ≡ is_corrupt g m

-- ---- payloads

-- The payloads have the numbers that the log gives them, each was put, and each has the content to which its bytes open.
pub record FitsPayloads (roster : RosterView) (log : Log) (payloads : PayloadsView) : Type 0 where
  pub numbers : log.payloads ≡ map (λ (x : PayloadView). x.bytes) payloads.items
  pub put : (x : PayloadView) → Contains payloads.items x → (p : Put) × Contains log.puts p × (p.bytes ≡ x.bytes)
  pub content : (x : PayloadView) → Contains payloads.items x → IsContent roster x.bytes x.content

-- ---- messages

-- the message in flight is the log's with its number, and carries the payload with its number
pub record FitsMessage (log : Log) (m : Msg) : Type 0 where
  pub sent : m.id < length log.sent
  pub from : (message_of log m.id).from ≡ m.from
  pub to : (message_of log m.id).to ≡ m.to
  pub payload : slice_get log.payloads m.payload ≡ Some (message_of log m.id).bytes

-- the messages in flight are those of the log, by number, and the next number is how many were sent
pub record FitsFlight (log : Log) (flight : FlightView) : Type 0 where
  pub next : flight.next ≡ length log.sent
  pub numbers : log.flight ≡ map (λ (m : Msg). m.id) flight.msgs
  pub messages : (m : Msg) → Contains flight.msgs m → FitsMessage log m

-- ---- what was said

-- a payload with the envelope in front was delivered to a server
pub record HasArrived (log : Log) (said : SaidView) : Type 0 where
  pub message : Message
  pub there : Contains log.delivered message
  pub server : ServerId
  pub to : message.to ≡ members.Server server
  pub front : HasInFront message.bytes said

-- where an envelope comes from that was heard, by its signer: a server's was put, a client's or a slot's reached a server
abbrev pub CameFrom : Log → SaidView → SignerId → Type 0
CameFrom log said (Server j) = (put : Put) × Contains log.puts put × IsPayloadOf put.bytes (payloads.Plain said.bytes)
CameFrom log said (Client i) = HasArrived log said
CameFrom log said (Slot k) = HasArrived log said

-- what was heard was said in the group, and put or delivered
pub record WasHeard (roster : RosterView) (log : Log) (said : SaidView) : Type 0 where
  pub verified : IsSaid said
  pub under : IsUnder roster said
  pub from : CameFrom log said said.signer

-- ---- all of it

-- The payloads, the messages in flight, the run's certificates and what was heard are those of the log.
pub record FitsLog (g : GroupView) (log : Log) (parts : PartsView) : Type 0 where
  pub payloads : FitsPayloads g.roster log parts.payloads
  pub flight : FitsFlight log parts.flight
  pub chain : IsChainOf g.roster (clients_of g) log.puts parts.chain
  pub heard : (said : SaidView) → Contains parts.heard said → WasHeard g.roster log said
