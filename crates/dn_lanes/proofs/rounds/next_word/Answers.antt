use Rattle.std.proofs.Common.{◌≡◌, ◌+◌, ◌%◌, arith, refl, rules}
use Rattle.rand_chacha.proofs.LaneLemmas.{slice_index-lane}
use Rattle.dn_lanes.proofs.LaneLemmas.{lane-set}
use Rattle.dn_lanes.proofs.rounds.next_word.Goals as goal

pub returns-clause-value : goal.returns-clause-value
returns-clause-value c j h =
    let w = c.args.w.now in
    let at : c.args.place % 16 ≡ c.args.place = omega arith in
    rw (
      slice_index-lane w j ((c.args.place + 14) % 16) (omega arith),
      slice_index-lane w j ((c.args.place + 9) % 16) (omega arith),
      slice_index-lane w j ((c.args.place + 1) % 16) (omega arith),
      at,
      slice_index-lane w j c.args.place c.requires,
      c.add-word.ensures j h,
      c.add-2.ensures j h,
      c.add.ensures j h,
      c.small_one-one.ensures j h,
      c.small_zero-zero.ensures j h,
    ) refl

pub returns-clause-window : goal.returns-clause-window
returns-clause-window c j h = lane-set j c.args.w.now (search rules) c.add-word.result c.args.place c.requires
