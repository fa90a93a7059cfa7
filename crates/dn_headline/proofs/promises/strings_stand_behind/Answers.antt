use Rattle.dn_headline.proofs.Behinds.{strings_stand_behind}
use Rattle.dn_headline.proofs.promises.strings_stand_behind.Goals as goal

pub returns : goal.returns
returns c = strings_stand_behind
