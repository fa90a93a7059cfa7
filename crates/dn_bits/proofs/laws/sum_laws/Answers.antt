use Rattle.dn_bits.proofs.SumLemmas.{sum_of_xor, sum_swap}
use Rattle.dn_bits.proofs.laws.sum_laws.Goals as goal

pub returns : goal.returns
returns c = record { adds = sum_of_xor; exchanges = sum_swap }
