use Rattle.std.proofs.Common.{◌≡◌}
use Rattle.dn_puppets.proofs.puppets.Puppets.tick.Given as goal

abbrev pub invariant-loop-j : goal.invariant-loop-j
invariant-loop-j g l = l.self ≡ l.initial.self
