use Rattle.std.proofs.Common.{refl}
use Rattle.dn_lanes.proofs.functions.small_zero.Goals as goal

pub returns : goal.returns
returns c j h =
    rw (c.xor-2.ensures j h, c.xor.ensures j h, c.rotr.ensures j h, c.rotr-2.ensures j h, c.shr.ensures j h) refl
