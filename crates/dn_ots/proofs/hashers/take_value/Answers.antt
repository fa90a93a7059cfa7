use Rattle.dn_ots.proofs.KeyLemmas.{tail_value}
use Rattle.dn_ots.proofs.hashers.take_value.Goals as goal

pub returns : goal.returns
returns c = λ m held. let tail = tail_value c.args.block.now c.told-block in rw tail at (c.update.ensures m held)
