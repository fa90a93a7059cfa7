use Rattle.dn_crew.proofs.LiveLemmas.{put_more}
use Rattle.dn_crew.proofs.delivering.put_post.Goals as goal

pub loop-member-preserved : goal.loop-member-preserved
loop-member-preserved c = put_more _ _ _ _ _ _ _ c.loop-member-test.true c.loop-member.invariant c.in_ok-put_letter.ensures
