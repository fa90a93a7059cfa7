-- A world's fields, and what contracts see of them.
use Rattle.dn_world.specs.Run.{WorldView}
use Rattle.dn_world.specs.Kept.{IsKept}
use Rattle.dn_world.specs.declared.world.World.TheInside.{Inside}

abbrev pub view_of : Inside → WorldView
view_of s = record { spec = s.spec; corrupt = s.corrupt.items; roster = s.state.roster; history = s.history.items; spent = s.is_spent }

abbrev pub Keeps : Inside → Type 0
Keeps s = IsKept (view_of s) s.state
