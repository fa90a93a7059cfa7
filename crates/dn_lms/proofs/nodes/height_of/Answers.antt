use Rattle.std.proofs.Common.{refl}
use Rattle.dn_lms.specs.Key.{height}
use Rattle.dn_lms.proofs.nodes.height_of.Goals as goal

pub returns : goal.returns
unfolding height
returns c = refl
