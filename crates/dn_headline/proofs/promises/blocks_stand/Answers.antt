use Rattle.dn_headline.proofs.Blocks.{blocks_stand_lem}
use Rattle.dn_headline.proofs.promises.blocks_stand.Goals as goal

pub returns : goal.returns
returns c = blocks_stand_lem
