use Rattle.std.proofs.Common.{◌≡◌, map}
use Rattle.dn_bits.specs.Bits.{below}
use Rattle.dn_server.specs.Server.{server_member}
use Rattle.dn_puppets.proofs.injection.all_servers.Given as goal

abbrev pub invariant-loop-j : goal.invariant-loop-j
invariant-loop-j l = l.members.items ≡ map server_member (below l.j)
