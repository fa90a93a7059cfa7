use Rattle.dn_headline.proofs.Delivery.{delivered_are_certified_lem}
use Rattle.dn_headline.proofs.promises.delivered_are_certified.Goals as goal

pub returns : goal.returns
returns c = delivered_are_certified_lem
