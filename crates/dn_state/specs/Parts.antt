-- The parts of a world, as contracts see them.
use Rattle.std.specs.Prelude.{◌≡◌, ◌<◌, ◌↔◌, ℕ, Bool, false, List, Option, Some, length, slice_get, All, IsSome}
use Rattle.std.specs.Ordering.{nat_cmp}
use Rattle.std.specs.BTreeMap.{is_at}
use Rattle.std.specs.List.{list_any}
use Rattle.dn_wire.specs.declared.ids.Member.TheVariants as members
use Rattle.dn_roster.specs.Roster.{RosterView}
use Rattle.dn_seal.specs.Said.{SaidView}
use Rattle.dn_cert.specs.Chain.{ChainView}
use Rattle.dn_client.specs.Client.{ClientView}
use Rattle.dn_server.specs.Server.{ServerView}
use Rattle.dn_payloads.specs.Payloads.{PayloadsView}
use Rattle.dn_flight.specs.Flight.{FlightView}
use Rattle.dn_flight.specs.declared.msg.Msg.{Msg}
use Rattle.dn_audit.specs.Group.{GroupView, is_corrupt}
use Rattle.dn_audit.specs.Auditor.{AuditorView}

-- The roster of the group, who owns which slot and who is corrupt; the cores of the honest clients and servers, by number; whether each client
-- has left; the payloads that were put, and the messages in flight; the run's certificates, and the rounds whose lines were told; what was
-- said, in the order in which it was heard; the numbers of the payloads that reached a server; the rounds in which an accusation was put, in
-- their order, each with the place of the last one; and what the audit knows.
pub record PartsView : Type 0 where
  pub roster : RosterView
  pub group : GroupView
  pub clients : List (Option ClientView)
  pub servers : List (Option ServerView)
  pub left : List Bool
  pub payloads : PayloadsView
  pub flight : FlightView
  pub chain : ChainView
  pub told : List ℕ
  pub heard : List SaidView
  pub delivered : List ℕ
  pub accused : List (ℕ × ℕ)
  pub auditor : AuditorView

-- the number is among these
abbrev pub has : List ℕ → ℕ → Bool
has numbers n = list_any (is_at (nat_cmp n)) numbers

-- there is a core exactly where the client isn't corrupt
abbrev pub HaveClients : GroupView → List (Option ClientView) → Type 0
HaveClients group clients = (i : ℕ) (core : Option ClientView) → slice_get clients i ≡ Some core
    → IsSome core ↔ (is_corrupt group (members.Client record { 0 = i }) ≡ false)

-- there is a core exactly where the server isn't corrupt
abbrev pub HaveServers : GroupView → List (Option ServerView) → Type 0
HaveServers group servers = (j : ℕ) (core : Option ServerView) → slice_get servers j ≡ Some core
    → IsSome core ↔ (is_corrupt group (members.Server record { 0 = j }) ≡ false)

-- A world in which memory was never wanting: the payloads open under its roster, there is a place for each member, each honest member has its
-- core there, and no corrupt one has, and what each message in flight carries was put.
pub record IsWhole (parts : PartsView) : Type 0 where
  pub opens : parts.payloads.roster ≡ parts.roster
  pub clients_long : length parts.clients ≡ length parts.roster.clients
  pub servers_long : length parts.servers ≡ length parts.roster.servers
  pub left_long : length parts.left ≡ length parts.roster.clients
  pub clients : HaveClients parts.group parts.clients
  pub servers : HaveServers parts.group parts.servers
  pub carried : All (λ (m : Msg). m.payload < length parts.payloads.items) parts.flight.msgs
