use Rattle.dn_bits.proofs.BitLemmas.{bit-xor, bit-sum, some_bit, length-sum_all}
use Rattle.dn_bits.proofs.laws.bit_laws.Goals as goal

pub returns : goal.returns
returns c = record { of_two = bit-xor; of_many = bit-sum; of_one = some_bit; length = length-sum_all }
