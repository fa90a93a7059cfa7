use Rattle.std.proofs.Common.{◌≡◌}
use Rattle.dn_leaf.proofs.tests.draw_five.Given as goal

abbrev pub invariant-loop : goal.invariant-loop
invariant-loop l = l.pass.drawer ≡ l.drawer
