use Rattle.std.proofs.Common.{◌≡◌, map}
use Rattle.std.specs.List.{range_with_len}
use Rattle.dn_seal.specs.Dealt.{seed_dealt_to}
use Rattle.dn_client.proofs.client.seeds_of.Given as goal

abbrev pub invariant-loop-j : goal.invariant-loop-j
invariant-loop-j l = l.seeds.items ≡ map (seed_dealt_to l.dealt.spec l.i.0) (range_with_len 0 l.j)
