use Rattle.std.proofs.Common.{◌≡◌}
use Rattle.dn_runner.proofs.living.deliver_entry.Given as goal

abbrev pub invariant-loop-message : goal.invariant-loop-message
invariant-loop-message g l = l.run.group ≡ l.initial.run.group
