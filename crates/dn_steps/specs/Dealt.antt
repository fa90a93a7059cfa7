-- The group of a run that is dealt.
use Rattle.std.specs.Prelude.{◌≡◌, ◌<◌, ℕ, List, map}
use Rattle.dn_wire.specs.declared.ids.ClientId.{ClientId}
use Rattle.dn_wire.specs.declared.ids.Member.{Member}
use Rattle.dn_bits.specs.Bits.{below}
use Rattle.dn_lms.specs.Key.{IsKey}
use Rattle.dn_roster.specs.declared.group.GroupSpec.{GroupSpec}
use Rattle.dn_roster.specs.Dealing.{mask_secret_of}
use Rattle.dn_roster.specs.Owners.{IsOwners}
use Rattle.dn_roster.specs.Roster.{IsRoster}
use Rattle.dn_seal.specs.Dealt.{server, key_dealt_to, seed_dealt_to, each_pair, dealt_roster}
use Rattle.dn_headline.specs.Group.{GroupView}

-- the group is this dealt one, whose slots these clients own, and of whose members these are corrupt
pub record IsDealtGroup (group : GroupSpec) (owners : List ClientId) (corrupt : List Member) (g : GroupView) : Type 0 where
  pub roster : g.roster ≡ dealt_roster group
  pub is_roster : IsRoster g.roster
  pub keys : (j : ℕ) → j < group.servers → IsKey (key_dealt_to group (server j))
  pub seeds : g.seeds ≡ each_pair (seed_dealt_to group) group.clients group.servers
  pub owned : g.owners ≡ owners
  pub in_order : IsOwners group owners
  pub masks : g.masks ≡ map (mask_secret_of group.seed) (below group.clients)
  pub marked : g.corrupt ≡ corrupt
