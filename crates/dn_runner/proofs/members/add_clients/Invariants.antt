use Rattle.std.proofs.Common.{◌≡◌, ◌++◌}
use Rattle.dn_runner.specs.Play.{clients_among}
use Rattle.dn_runner.proofs.members.add_clients.Given as goal

abbrev pub invariant-loop-i : goal.invariant-loop-i
invariant-loop-i l = l.members.items ≡ l.initial.members.items ++ clients_among l.named l.i
