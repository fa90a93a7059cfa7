use Rattle.std.proofs.Common.{◌≡◌}
use Rattle.dn_runner.proofs.expanding.ticks.Given as goal

abbrev pub invariant-loop : goal.invariant-loop
invariant-loop g l = l.run.group ≡ l.initial.run.group
