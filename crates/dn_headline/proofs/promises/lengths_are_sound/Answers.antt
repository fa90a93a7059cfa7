use Rattle.dn_headline.proofs.Layouts.{lengths_are_sound_lem}
use Rattle.dn_headline.proofs.promises.lengths_are_sound.Goals as goal

pub returns : goal.returns
returns c = lengths_are_sound_lem
