use Rattle.std.proofs.Common.{◌<◌, All}
use Rattle.dn_runner.proofs.racing.claimed.Given as goal

abbrev pub invariant-loop-i : goal.invariant-loop-i
invariant-loop-i l = All (λ c. c.0 < l.run.group.spec.clients) l.claimed.items
