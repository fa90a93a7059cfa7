use Rattle.dn_steps.proofs.Stepping.{step_is_tied}
use Rattle.dn_steps.proofs.laws.steps_stay_tied.Goals as goal

pub returns : goal.returns
returns c = step_is_tied
