use Rattle.dn_state.specs.Beginning.{AreClients}
use Rattle.dn_state.proofs.making.honest_clients.Given as goal

abbrev pub invariant-loop-i : goal.invariant-loop-i
invariant-loop-i l = AreClients l.dealt.spec l.dealt.roster l.group l.clients.items l.i
