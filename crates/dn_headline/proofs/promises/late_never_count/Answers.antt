use Rattle.dn_headline.proofs.Listing.{late_never_count_lem}
use Rattle.dn_headline.proofs.promises.late_never_count.Goals as goal

pub returns : goal.returns
returns c = late_never_count_lem
