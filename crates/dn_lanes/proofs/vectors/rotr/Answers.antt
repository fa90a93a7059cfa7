use Rattle.dn_lanes.proofs.LaneLemmas.{shifts_rotate_right}
use Rattle.dn_lanes.proofs.vectors.rotr.Goals as goal

pub returns : goal.returns
returns c = shifts_rotate_right c.args.k c.requires.0 c.requires.1 c.args.a c.fits-a.0
