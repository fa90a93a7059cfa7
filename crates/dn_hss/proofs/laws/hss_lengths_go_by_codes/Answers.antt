use Rattle.dn_hss_definitions.proofs.Laws.{length-hss_public_key, length-hss_signature}
use Rattle.dn_hss.proofs.laws.hss_lengths_go_by_codes.Goals as goal

pub returns-clause-public_key : goal.returns-clause-public_key
returns-clause-public_key c = length-hss_public_key

pub returns-clause-signature : goal.returns-clause-signature
returns-clause-signature c = length-hss_signature
