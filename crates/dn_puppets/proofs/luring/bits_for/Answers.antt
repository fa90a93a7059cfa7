use Rattle.std.proofs.Common.{List, Bool, length, ap, arith}
use Rattle.dn_puppets.proofs.Lengths.{length-lured}
use Rattle.dn_puppets.proofs.luring.bits_for.Goals as goal

pub pad_bits-requires : goal.pad_bits-requires
pad_bits-requires c =
    omega (arith, ap (λ (b : List Bool). length b) c.turned_for-bits.ensures, length-lured c.args.lured c.in_ok-bits.bits, c.in_ok-bits.ensures.few)
