-- The limits of a group.
use Rattle.std.specs.Prelude.{◌≤◌}
use Rattle.dn_roster.specs.declared.group.GroupSpec.{GroupSpec}

-- the version, the numbers of members and the typecodes are within their limits
pub record IsWithinLimits (group : GroupSpec) : Type 0 where
  pub version : (1 ≤ group.version) × (group.version ≤ 2)
  pub clients : (1 ≤ group.clients) × (group.clients ≤ 512)
  pub servers : (1 ≤ group.servers) × (group.servers ≤ 16)
  pub ots : (1 ≤ group.ots) × (group.ots ≤ 4)
  pub client_lms : (5 ≤ group.client_lms) × (group.client_lms ≤ 6)
  pub server_lms : (5 ≤ group.server_lms) × (group.server_lms ≤ 7)
