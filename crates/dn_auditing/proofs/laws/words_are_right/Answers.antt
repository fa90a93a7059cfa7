use Rattle.dn_auditing.proofs.Words.{tells_right}
use Rattle.dn_auditing.proofs.laws.words_are_right.Goals as goal

pub returns : goal.returns
returns c = tells_right
