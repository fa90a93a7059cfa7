use Rattle.std.proofs.Common.{◌≡◌}
use Rattle.dn_runner.proofs.racing.follow.Given as goal

abbrev pub invariant-loop-ordered : goal.invariant-loop-ordered
invariant-loop-ordered g l = l.run.group ≡ l.initial.run.group
