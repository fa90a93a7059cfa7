use Rattle.played_groups.proofs.Delivered.{opened_is}
use Rattle.played_groups.proofs.delivering.opened.Goals as goal

pub returns-in-Ok : goal.returns-in-Ok
returns-in-Ok c = let is = c.in-Ok.ensures.opened in opened_is c.args.roster.now is.0 c.in-Ok.opened is.3
