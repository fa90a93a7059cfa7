use Rattle.dn_headline.proofs.Listing.{included_count_once_lem}
use Rattle.dn_headline.proofs.promises.included_count_once.Goals as goal

pub returns : goal.returns
returns c = included_count_once_lem
