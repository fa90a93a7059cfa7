use Rattle.std.proofs.Common.{◌∙◌, arith}
use Rattle.dn_puppets.proofs.Puts.{put_more}
use Rattle.dn_puppets.proofs.injection.put_to.Goals as goal

pub loop-member-preserved : goal.loop-member-preserved
loop-member-preserved c =
    put_more c.args.from c.args.payload.now c.args.to.now c.loop-member.member-index _ c.args.out.now.items c.loop-member.out.items c.push.new.self.items _
    (omega arith) (c.of.ensures ∙ c.in_ok-from_slice.ensures.items) c.loop-member.invariant c.in_ok-push.ensures.items
