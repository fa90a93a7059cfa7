use Rattle.std.proofs.Common.{◌≡◌, ◌≤◌, length}
use Rattle.dn_puppets.proofs.puppets.Puppets.lure.Given as goal

abbrev pub invariant-loop-j : goal.invariant-loop-j
invariant-loop-j l = (l.self ≡ l.initial.self) × (length l.envelopes.items ≤ l.j)
