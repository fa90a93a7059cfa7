use Rattle.dn_layout.proofs.RangeLemmas.{range_within, ranges_ascend, range_found}
use Rattle.dn_layout.proofs.laws.ranges_part_the_round.Goals as goal

pub returns : goal.returns
returns c = record { within = range_within; ascend = ranges_ascend; whole = range_found }
