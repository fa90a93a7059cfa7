use Rattle.std.proofs.Common.{◌≡◌, map}
use Rattle.dn_bits.specs.Bits.{below}
use Rattle.dn_server.specs.Server.{client_member}
use Rattle.dn_puppets.proofs.completing.others.Given as goal

abbrev pub invariant-loop-i : goal.invariant-loop-i
invariant-loop-i l = l.members.items ≡ map client_member (below l.i)
