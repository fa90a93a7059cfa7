use Rattle.dn_layout.proofs.LengthLemmas.{length-block_of}
use Rattle.dn_layout.proofs.laws.blocks_fill_their_slots.Goals as goal

pub returns : goal.returns
returns c = length-block_of
