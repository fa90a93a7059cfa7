use Rattle.dn_auditing.proofs.Putting.{knows_nothing}
use Rattle.dn_auditing.proofs.laws.nothing_is_known.Goals as goal

pub returns : goal.returns
returns c = knows_nothing
