-- A world in which nothing has happened.
use Rattle.std.specs.Prelude.{◌≡◌, ℕ, Bool, true, false, List, [], map, flat_map, replicate, length, Option, Some, None, slice_get}
use Rattle.dn_wire.specs.declared.ids.ClientId.{ClientId}
use Rattle.dn_wire.specs.declared.ids.Member.{Member}
use Rattle.dn_wire.specs.declared.ids.Member.TheVariants as members
use Rattle.dn_bits.specs.Bits.{below}
use Rattle.dn_roster.specs.declared.group.GroupSpec.{GroupSpec}
use Rattle.dn_roster.specs.Roster.{RosterView}
use Rattle.dn_seal.specs.Dealt.{seed_dealt_to}
use Rattle.dn_client.specs.Client.{ClientView, Identity, IsClient, IsDealtTo, IsIn}
use Rattle.dn_server.specs.Server.{ServerView}
use Rattle.dn_exchange.specs.Making.{first_server}
use Rattle.dn_audit.specs.Group.{GroupView, IsGroupOf, is_corrupt}
use Rattle.dn_audit.specs.Strings.{Hashed}
use Rattle.dn_audit.specs.Auditor.{AuditorView, RunStrings, TellsOf, hashed_seed, no_strings}
use Rattle.dn_state.specs.Parts.{PartsView}

-- a client that has done nothing yet, of a group of so many
abbrev pub first_client : ℕ → Identity → ClientView
first_client clients who = record {
  who = who;
  chain = record { slots = clients; held = [] };
  queue = [];
  head = 0;
  made = [];
  accused = [];
  answered = [];
  signed = [];
  signed_as_slot = [];
  left = false;
  bent = false;
  spent = false;
}

-- client i of a dealt group, before it has done anything
pub record IsFirstClient (group : GroupSpec) (roster : RosterView) (i : ClientId) (core : ClientView) : Type 0 where
  pub dealt : IsDealtTo group i core.who
  pub within : IsIn roster core.who
  pub fresh : core ≡ first_client group.clients core.who
  pub client : IsClient core

-- what is at a client's place: no core where it is corrupt, and else one as it is made
abbrev pub IsClientPlace : GroupSpec → RosterView → ClientId → Bool → Option ClientView → Type 0
IsClientPlace group roster i true place = place ≡ None
IsClientPlace group roster i false None = ⊥
IsClientPlace group roster i false (Some core) = IsFirstClient group roster i core

-- the places of all clients
pub record AreClients (group : GroupSpec) (roster : RosterView) (m : GroupView) (clients : List (Option ClientView)) (n : ℕ) : Type 0 where
  pub long : length clients ≡ n
  pub each : (i : ClientId) (place : Option ClientView) → slice_get clients i.0 ≡ Some place
      → IsClientPlace group roster i (is_corrupt m (members.Client i)) place

-- what is at a server's place: no core where it is corrupt, and else one as it is made
abbrev pub server_place : GroupSpec → RosterView → ℕ → ℕ → Bool → Option ServerView
server_place group roster workers j true = None
server_place group roster workers j false = Some (first_server group roster j workers)

-- and what is at the places of n servers
abbrev pub first_servers : GroupSpec → RosterView → ℕ → GroupView → ℕ → List (Option ServerView)
first_servers group roster workers m n = map (λ j. server_place group roster workers j (is_corrupt m (members.Server record { 0 = j }))) (below n)

-- the seed that was dealt to a pair, as the audit has it
abbrev pub hashed_dealt : GroupSpec → ℕ → ℕ → Hashed
hashed_dealt group i j = hashed_seed i j (seed_dealt_to group i j)

-- the seeds of a client, by server
abbrev pub seeds_of : GroupSpec → ℕ → List Hashed
seeds_of group i = map (hashed_dealt group i) (below group.servers)

-- those of the first n clients, client by client
abbrev pub seeds_below : GroupSpec → ℕ → List Hashed
seeds_below group n = flat_map (seeds_of group) (below n)

-- the strings of a run before anything is put: the seeds that were dealt
abbrev pub first_strings : GroupSpec → RunStrings
first_strings group = record no_strings { seeds = seeds_below group group.clients }

-- the audit before anything is put
pub record IsFirstAuditor (group : GroupSpec) (auditor : AuditorView) : Type 0 where
  pub signed : auditor.signed ≡ []
  pub are_theirs : auditor.are_theirs ≡ true
  pub tells : TellsOf auditor (first_strings group)

-- A dealt group of members of whom these are corrupt, whose servers' sums have so many workers: each honest member has its core as it is made;
-- nothing was put, nothing is in flight, no round was told and nothing heard; and the audit knows the seeds that were dealt.
pub record Begins (group : GroupSpec) (roster : RosterView) (owners : List ClientId) (corrupt : List Member) (workers : ℕ) (v : PartsView) : Type 0 where
  pub roster_is : v.roster ≡ roster
  pub members : IsGroupOf owners group.clients group.servers corrupt v.group
  pub clients : AreClients group roster v.group v.clients group.clients
  pub servers : v.servers ≡ first_servers group roster workers v.group group.servers
  pub left : v.left ≡ replicate group.clients false
  pub payloads : v.payloads ≡ record { roster = roster; items = [] }
  pub flight : v.flight ≡ record { msgs = []; next = 0 }
  pub chain : v.chain ≡ record { slots = group.clients; held = [] }
  pub told : v.told ≡ []
  pub heard : v.heard ≡ []
  pub delivered : v.delivered ≡ []
  pub accused : v.accused ≡ []
  pub auditor : IsFirstAuditor group v.auditor
