use Rattle.dn_lanes.proofs.LaneLemmas.{below_sixteen}
use Rattle.dn_lanes.proofs.digest.words4.Goals as goal

pub returns : goal.returns
returns c = λ j below. below_sixteen _
    (c.word4.ensures j below) (c.word4-2.ensures j below) (c.word4-3.ensures j below) (c.word4-4.ensures j below)
    (c.word4-5.ensures j below) (c.word4-6.ensures j below) (c.word4-7.ensures j below) (c.word4-8.ensures j below)
    (c.word4-9.ensures j below) (c.word4-10.ensures j below) (c.word4-11.ensures j below) (c.word4-12.ensures j below)
    (c.word4-13.ensures j below) (c.word4-14.ensures j below) (c.word4-15.ensures j below) (c.word4-16.ensures j below)
