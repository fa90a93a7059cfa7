use Rattle.std.proofs.Common.{◌≡◌}
use Rattle.dn_runner.proofs.living.follow_post.Given as goal

abbrev pub invariant-loop-messages : goal.invariant-loop-messages
invariant-loop-messages g l = l.run.group ≡ l.initial.run.group
