use Rattle.std.proofs.Common.{length, refl}
use Rattle.dn_bits.proofs.ByteLemmas.{bits_again}
use Rattle.dn_bits.proofs.laws.bytes_round_trip.Goals as goal

pub returns : goal.returns
returns c = λ bits. bits_again bits (length bits) refl
