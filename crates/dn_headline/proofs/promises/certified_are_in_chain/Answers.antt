use Rattle.dn_headline.proofs.RunChain.{certified_are_in_chain_lem}
use Rattle.dn_headline.proofs.promises.certified_are_in_chain.Goals as goal

pub returns : goal.returns
returns c = certified_are_in_chain_lem
