use Rattle.dn_auditing.proofs.Putting.{noted_again}
use Rattle.dn_auditing.proofs.laws.repeats_are_known.Goals as goal

pub returns : goal.returns
returns c = noted_again
