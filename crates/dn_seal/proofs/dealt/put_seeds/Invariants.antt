use Rattle.std.proofs.Common.{◌≡◌, ◌++◌, map}
use Rattle.std.specs.List.{range_with_len}
use Rattle.dn_seal.specs.Dealt.{seed_dealt_to}
use Rattle.dn_seal.proofs.dealt.put_seeds.Given as goal

abbrev pub invariant-loop-j : goal.invariant-loop-j
invariant-loop-j l = l.out.items ≡ l.fn.out.items ++ map (seed_dealt_to l.spec l.i) (range_with_len 0 l.j)
