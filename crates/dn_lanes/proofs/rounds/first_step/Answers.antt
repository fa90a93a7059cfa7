use Rattle.std.proofs.Common.{refl, sym}
use Rattle.rand_chacha.proofs.LaneLemmas.{slice_index-lane}
use Rattle.rand_chacha.specs.Lanes.{lane}
use Rattle.sha2.proofs.Schedule256.{rounds_first}
use Rattle.dn_lanes.proofs.rounds.first_step.Goals as goal

pub returns : goal.returns
returns c j below = λ b h window held.
    rounds_first b h (lane j c.args.w.now) _ c.args.t _ _ _ c.requires window held refl
    (sym (slice_index-lane c.args.w.now j c.args.t c.requires)) (c.round4.ensures j below)
