use Rattle.std.proofs.Common.{List, Bool, length, ap, arith}
use Rattle.dn_puppets.proofs.Lengths.{length-turned}
use Rattle.dn_puppets.proofs.twisting.twisted_bits.Goals as goal

pub pad_bits-requires : goal.pad_bits-requires
pad_bits-requires c =
    omega (arith, c.requires, ap (λ (b : List Bool). length b) c.in_ok-bits-in-Some-Frame.ensures, length-turned c.args.bits.now c.in-Some-Frame.client.0)
