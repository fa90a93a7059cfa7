use Rattle.std.proofs.Common.{◌≡◌}
use Rattle.dn_runner.proofs.run.Run.inject.Given as goal

abbrev pub invariant-loop-post : goal.invariant-loop-post
invariant-loop-post g l = l.self.group ≡ l.initial.self.group
