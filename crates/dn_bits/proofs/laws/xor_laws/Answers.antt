use Rattle.std.proofs.Common.{length, refl}
use Rattle.dn_bits.proofs.SumLemmas.{xor_comm, xor_assoc, zeros_xor, xor_self}
use Rattle.dn_bits.proofs.laws.xor_laws.Goals as goal

pub returns : goal.returns
returns c = record {
  commutes = xor_comm;
  associates = xor_assoc;
  adds_nothing = λ x. zeros_xor x (length x) refl;
  cancels = λ x. xor_self x (length x) refl;
}
