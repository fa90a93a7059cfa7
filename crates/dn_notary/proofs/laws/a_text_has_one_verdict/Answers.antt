use Rattle.dn_notary.proofs.OneVerdict.{one_verdict}
use Rattle.dn_notary.proofs.laws.a_text_has_one_verdict.Goals as goal

pub returns : goal.returns
returns c = one_verdict
