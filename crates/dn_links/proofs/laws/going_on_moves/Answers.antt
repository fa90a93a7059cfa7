use Rattle.dn_links.proofs.Going.{steps_by}
use Rattle.dn_links.proofs.laws.going_on_moves.Goals as goal

pub returns : goal.returns
returns c core did d within goes = steps_by core did d within goes.steps
