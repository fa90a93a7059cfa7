use Rattle.std.proofs.Common.{◌≡◌, map}
use Rattle.dn_bits.specs.Bits.{below}
use Rattle.dn_state.specs.Members.{server_member}
use Rattle.dn_state.proofs.calling.members_of.Given as goal

abbrev pub invariant-loop-j : goal.invariant-loop-j
invariant-loop-j l = l.members.items ≡ map server_member (below l.j)
