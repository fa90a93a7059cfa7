use Rattle.std.proofs.Common.{◌≡◌, map}
use Rattle.std.specs.Prelude.{filter, not, ◌==◌}
use Rattle.dn_bits.specs.Bits.{below}
use Rattle.dn_server.specs.Server.{server_member}
use Rattle.dn_server.proofs.saying.other_servers.Given as goal

abbrev pub invariant-loop-j : goal.invariant-loop-j
invariant-loop-j l = l.members.items ≡ map server_member (filter (λ j. not (j == l.own.0)) (below l.j))
