use Rattle.dn_puppets.specs.Waiting.{NoneBefore}
use Rattle.dn_puppets.proofs.waiting.Waiting.place.Given as goal

abbrev pub invariant-loop-i : goal.invariant-loop-i
invariant-loop-i l = NoneBefore l.kind l.self l.i
