use Rattle.dn_headline.proofs.Answered.{answered_blame_somebody_lem}
use Rattle.dn_headline.proofs.promises.answered_blame_somebody.Goals as goal

pub returns : goal.returns
returns c = answered_blame_somebody_lem
