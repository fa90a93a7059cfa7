use Rattle.dn_cert.proofs.ChainLemmas.{chains_agree_lem, counts_agree_lem}
use Rattle.dn_cert.proofs.chain_laws.chains_agree.Goals as goal

pub returns : goal.returns
returns c = record { layouts = chains_agree_lem; counts = counts_agree_lem }
