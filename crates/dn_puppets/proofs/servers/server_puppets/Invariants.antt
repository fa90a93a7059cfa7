use Rattle.dn_puppets.specs.Puppets.{AreOfGroup}
use Rattle.dn_puppets.proofs.servers.server_puppets.Given as goal

abbrev pub invariant-loop-j : goal.invariant-loop-j
invariant-loop-j l = AreOfGroup l.dealt.roster l.puppets.items
