use Rattle.dn_cert.proofs.TrimLemmas.{trims_are_one_lem}
use Rattle.dn_cert.proofs.trim_laws.trims_are_one.Goals as goal

pub returns : goal.returns
returns c = λ inventories listed other keep t u. trims_are_one_lem inventories keep listed other t u
