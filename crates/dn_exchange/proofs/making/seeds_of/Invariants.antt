use Rattle.std.proofs.Common.{◌≡◌, map}
use Rattle.dn_bits.specs.Bits.{below}
use Rattle.dn_seal.specs.Dealt.{seed_dealt_to}
use Rattle.dn_exchange.proofs.making.seeds_of.Given as goal

abbrev pub invariant-loop-i : goal.invariant-loop-i
invariant-loop-i l = l.seeds.items ≡ map (λ i. seed_dealt_to l.dealt.spec i l.j) (below l.i)
