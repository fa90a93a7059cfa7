use Rattle.std.proofs.Common.{refl}
use Rattle.dn_lanes.proofs.rounds.round4.Goals as goal

pub returns : goal.returns
returns c j h =
    rw (
      c.add-4.ensures j h,
      c.add-5.ensures j h,
      c.add-t2.ensures j h,
      c.add-t1.ensures j h,
      c.add-3.ensures j h,
      c.add-2.ensures j h,
      c.add.ensures j h,
      c.splat.ensures j h,
      c.sigma_one.ensures j h,
      c.choose.ensures j h,
      c.sigma_zero.ensures j h,
      c.majority.ensures j h,
    ) refl
