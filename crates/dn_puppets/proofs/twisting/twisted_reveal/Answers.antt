use Rattle.std.proofs.Common.{List, Bool, length, ap, arith}
use Rattle.dn_puppets.proofs.Lengths.{length-turned}
use Rattle.dn_puppets.proofs.twisting.twisted_reveal.Goals as goal

pub reveal-requires : goal.reveal-requires
reveal-requires c =
    omega (arith, c.requires, ap (λ (b : List Bool). length b) c.in_ok-s-in-Some-Reveal.ensures, length-turned c.args.s.now c.in-Some-Reveal.k)
