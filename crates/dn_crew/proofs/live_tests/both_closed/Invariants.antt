use Rattle.std.proofs.Common.{◌≡◌, All, vec_len}
use Rattle.dn_crew.proofs.live_tests.both_closed.Given as goal

abbrev pub invariant-loop-j : goal.invariant-loop-j
invariant-loop-j g l = record {
  long : vec_len l.cores ≡ l.j;
  group : All (λ v. v.seat.roster ≡ l.dealt.roster) l.cores.items;
}
