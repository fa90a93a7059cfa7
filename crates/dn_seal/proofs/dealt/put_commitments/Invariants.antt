use Rattle.std.proofs.Common.{◌≡◌, ◌++◌, map}
use Rattle.std.specs.List.{range_with_len}
use Rattle.dn_seal.specs.Dealt.{commitment_dealt_to}
use Rattle.dn_seal.proofs.dealt.put_commitments.Given as goal

abbrev pub invariant-loop-j : goal.invariant-loop-j
invariant-loop-j l = l.out.items ≡ l.fn.out.items ++ map (commitment_dealt_to l.spec l.i) (range_with_len 0 l.j)
