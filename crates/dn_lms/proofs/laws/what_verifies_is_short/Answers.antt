use Rattle.dn_lms.proofs.SizeLemmas.{verified_short}
use Rattle.dn_lms.proofs.laws.what_verifies_is_short.Goals as goal

pub returns : goal.returns
returns c = verified_short
