use Rattle.dn_steps.proofs.Along.{says_clean}
use Rattle.dn_steps.proofs.auditing.audits_say_clean.Goals as goal

pub returns : goal.returns
returns c = says_clean
