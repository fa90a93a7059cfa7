use Rattle.dn_auditing.proofs.Putting.{sum_told}
use Rattle.dn_auditing.proofs.laws.ciphertexts_are_told.Goals as goal

pub returns : goal.returns
returns c = sum_told
