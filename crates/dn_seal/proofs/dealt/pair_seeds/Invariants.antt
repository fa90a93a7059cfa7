use Rattle.std.proofs.Common.{◌≡◌}
use Rattle.dn_seal.specs.Dealt.{each_pair, seed_dealt_to}
use Rattle.dn_seal.proofs.dealt.pair_seeds.Given as goal

abbrev pub invariant-loop-i : goal.invariant-loop-i
invariant-loop-i l = l.seeds.items ≡ each_pair (seed_dealt_to l.spec) l.i l.spec.servers
