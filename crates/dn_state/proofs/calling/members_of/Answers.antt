use Rattle.std.proofs.Common.{refl}
use Rattle.dn_seal.proofs.ListLemmas.{one_more}
use Rattle.dn_state.specs.Members.{server_member}
use Rattle.dn_state.proofs.calling.members_of.Goals as goal

pub loop-j-preserved : goal.loop-j-preserved
loop-j-preserved c = one_more server_member c.loop-j.members.items _ c.loop-j.j (server_member c.loop-j.j) c.loop-j.invariant c.in_ok-push.ensures.items refl
