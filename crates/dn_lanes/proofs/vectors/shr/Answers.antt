use Rattle.dn_lanes.proofs.LaneLemmas.{shifts_right}
use Rattle.dn_lanes.proofs.vectors.shr.Goals as goal

pub returns : goal.returns
returns c = shifts_right c.args.k c.args.a c.fits-a.0
