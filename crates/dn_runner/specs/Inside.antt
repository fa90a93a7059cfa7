-- The fields of a run, and what contracts see of them.
use Rattle.dn_runner.specs.Played.{RunView, IsKept}
use Rattle.dn_runner.specs.declared.run.Run.TheInside.{Inside}

abbrev pub view_of : Inside → RunView
view_of r = record { group = record { spec = r.group; corrupt = r.world.corrupt }; history = r.world.history; shown = r.shown.items }

abbrev pub Keeps : Inside → Type 0
Keeps r = IsKept (view_of r) r.roster r.world r.puppets
