use Rattle.std.proofs.Common.{◌≡◌}
use Rattle.dn_runner.proofs.living.follow.Given as goal

abbrev pub invariant-loop-post : goal.invariant-loop-post
invariant-loop-post g l = l.run.group ≡ l.initial.run.group
