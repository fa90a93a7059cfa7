use Rattle.dn_cert.proofs.ChainLemmas.{layout_is_one_lem}
use Rattle.dn_cert.proofs.chain_laws.layout_is_one.Goals as goal

pub returns : goal.returns
returns c = layout_is_one_lem
