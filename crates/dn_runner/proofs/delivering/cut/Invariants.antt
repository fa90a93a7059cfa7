use Rattle.std.proofs.Common.{◌≡◌}
use Rattle.dn_runner.proofs.delivering.cut.Given as goal

abbrev pub invariant-loop-id : goal.invariant-loop-id
invariant-loop-id g l = l.run.group ≡ l.initial.run.group
