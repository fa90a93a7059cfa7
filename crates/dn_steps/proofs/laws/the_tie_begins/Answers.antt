use Rattle.dn_steps.proofs.Begun.{tie_begins}
use Rattle.dn_steps.proofs.laws.the_tie_begins.Goals as goal

pub returns : goal.returns
returns c = tie_begins
