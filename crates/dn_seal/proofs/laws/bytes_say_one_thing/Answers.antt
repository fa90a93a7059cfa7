use Rattle.dn_seal.proofs.SaidLemmas.{one_said, said_unseals, unsealed_once}
use Rattle.dn_seal.proofs.laws.bytes_say_one_thing.Goals as goal

pub returns-clause-one : goal.returns-clause-one
returns-clause-one c = one_said

pub returns-clause-unseals : goal.returns-clause-unseals
returns-clause-unseals c = said_unseals

pub returns-clause-alone : goal.returns-clause-alone
returns-clause-alone c = unsealed_once
