use Rattle.dn_headline.proofs.Signing.{one_body_lem}
use Rattle.dn_headline.proofs.promises.one_body_per_round.Goals as goal

pub returns : goal.returns
returns c = one_body_lem
