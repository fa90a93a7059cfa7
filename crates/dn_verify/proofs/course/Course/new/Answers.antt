use Rattle.std.proofs.Common.{refl}
use Rattle.dn_verify.proofs.CourseLemmas.{same_course}
use Rattle.dn_verify.proofs.course.Course.new.Goals as goal

pub returns : goal.returns
returns c = same_course _ _ refl c.new.ensures c.new-2.ensures.next c.new-2.ensures.none c.new-3.ensures refl refl refl
