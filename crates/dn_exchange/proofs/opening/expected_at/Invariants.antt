use Rattle.std.proofs.Common.{◌≡◌, ◌≤◌}
use Rattle.dn_exchange.specs.Opening.{expected_at}
use Rattle.dn_exchange.proofs.opening.expected_at.Given as goal

abbrev pub invariant-loop-i : goal.invariant-loop-i
invariant-loop-i l = (l.count ≡ expected_at l.i l.servers l.j) × (l.count ≤ l.i)
