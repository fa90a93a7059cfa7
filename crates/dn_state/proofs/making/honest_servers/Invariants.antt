use Rattle.std.proofs.Common.{◌≡◌}
use Rattle.dn_state.specs.Sound.{AreOfGroup}
use Rattle.dn_state.specs.Beginning.{first_servers}
use Rattle.dn_state.proofs.making.honest_servers.Given as goal

abbrev pub invariant-loop-j : goal.invariant-loop-j
invariant-loop-j l = record {
  of_group : AreOfGroup l.dealt.roster l.servers.items;
  first : l.servers.items ≡ first_servers l.dealt.spec l.dealt.roster l.workers l.group l.j;
}
