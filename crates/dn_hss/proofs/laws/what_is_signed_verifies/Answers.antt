use Rattle.dn_hss_definitions.proofs.Laws.{hss_signature-verifies}
use Rattle.dn_hss.proofs.laws.what_is_signed_verifies.Goals as goal

pub returns : goal.returns
returns c = hss_signature-verifies
