use Rattle.std.proofs.Common.{◌≡◌, ◌++◌}
use Rattle.dn_runner.specs.Play.{servers_among}
use Rattle.dn_runner.proofs.members.add_servers.Given as goal

abbrev pub invariant-loop-j : goal.invariant-loop-j
invariant-loop-j l = l.members.items ≡ l.initial.members.items ++ servers_among l.named l.j
