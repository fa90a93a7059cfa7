use Rattle.dn_seal.proofs.SaidLemmas.{sealed_unseals}
use Rattle.dn_seal.proofs.laws.sealed_bytes_unseal.Goals as goal

pub returns : goal.returns
returns c = sealed_unseals
