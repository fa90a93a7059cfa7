-- The members of a world.
use Rattle.std.specs.Prelude.{◌≡◌, ℕ, List, map, length, Option, Some, None, slice_get, slice_set}
use Rattle.dn_wire.specs.declared.ids.ClientId.{ClientId}
use Rattle.dn_wire.specs.declared.ids.ServerId.{ServerId}
use Rattle.dn_wire.specs.declared.ids.Member.{Member}
use Rattle.dn_wire.specs.declared.ids.Member.TheVariants as members
use Rattle.dn_bits.specs.Bits.{below}
use Rattle.dn_client.specs.Client.{ClientView}
use Rattle.dn_server.specs.Server.{ServerView}
use Rattle.dn_state.specs.Parts.{PartsView}

abbrev pub core_in : {A : Type 0} → Option (Option A) → Option A
core_in (Some core) = core
core_in None = None

-- the core at a place; none where there is no such place, or none at it
abbrev pub core_at : {A : Type 0} → List (Option A) → ℕ → Option A
core_at cores k = core_in (slice_get cores k)

-- the core of an honest client; none where that client is corrupt or out of range
abbrev pub client_at : PartsView → ClientId → Option ClientView
client_at v i = core_at v.clients i.0

-- the core of an honest server; none where that server is corrupt or out of range
abbrev pub server_at : PartsView → ServerId → Option ServerView
server_at v j = core_at v.servers j.0

abbrev pub with_client : PartsView → ClientId → ClientView → PartsView
with_client v i core = record v { clients = slice_set v.clients i.0 (Some core) }

abbrev pub with_server : PartsView → ServerId → ServerView → PartsView
with_server v j core = record v { servers = slice_set v.servers j.0 (Some core) }

abbrev pub server_member : ℕ → Member
server_member j = members.Server record { 0 = j }

-- all servers, by number
abbrev pub all_servers : PartsView → List Member
all_servers v = map server_member (below (length v.roster.servers))

-- the core at a place is called, and becomes another
pub record Turns {A : Type 0} (old new : List (Option A)) (k : ℕ) (call : A → A → Type 0) : Type 0 where
  pub before : A
  pub after : A
  pub there : core_at old k ≡ Some before
  pub called : call before after
  pub kept : new ≡ slice_set old k (Some after)

-- there is no core at a place, and the cores stay
pub record HasNone {A : Type 0} (old new : List (Option A)) (k : ℕ) : Type 0 where
  pub none : core_at old k ≡ None
  pub same : new ≡ old
