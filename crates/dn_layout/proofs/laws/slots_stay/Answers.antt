use Rattle.dn_layout.proofs.LengthLemmas.{length-next_of}
use Rattle.dn_layout.proofs.laws.slots_stay.Goals as goal

pub returns : goal.returns
returns c = length-next_of
