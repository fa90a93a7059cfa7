-- What contracts see of a world.
use Rattle.std.specs.Prelude.{Bool, List}
use Rattle.dn_wire.specs.declared.ids.Member.{Member}
use Rattle.dn_roster.specs.declared.group.GroupSpec.{GroupSpec}
use Rattle.dn_roster.specs.Roster.{RosterView}
use Rattle.dn_world.specs.declared.step.Step.{Step}

-- the group as it was dealt, its corrupt members and its roster; the events so far with all that came of them, in order; and whether memory was
-- wanting
pub record WorldView : Type 0 where
  pub spec : GroupSpec
  pub corrupt : List Member
  pub roster : RosterView
  pub history : List Step
  pub spent : Bool
