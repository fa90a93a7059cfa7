use Rattle.dn_steps.proofs.Along.{goes_along}
use Rattle.dn_steps.proofs.auditing.runs_go_along.Goals as goal

pub returns : goal.returns
returns c = goes_along
