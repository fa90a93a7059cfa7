use Rattle.std.proofs.Common.{◌≡◌}
use Rattle.dn_runner.specs.Racing.{CanRace}
use Rattle.dn_runner.proofs.racing.submit_all.Given as goal

abbrev pub invariant-loop-member : goal.invariant-loop-member
invariant-loop-member g l = record { group : l.run.group ≡ l.initial.run.group; list : CanRace l.initial.run.group.spec.clients l.list.items }
