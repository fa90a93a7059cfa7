use Rattle.dn_lanes.proofs.BlockLemmas.{block_parts}
use Rattle.dn_lanes.proofs.digest.block_of.Goals as goal

pub returns-clause-block : goal.returns-clause-block
returns-clause-block c = rw c.copy_from_slice.ensures.after (block_parts c.args.message.now c.copy_from_slice-2.new.self c.told-message c.copy_from_slice-2.ensures.after)
