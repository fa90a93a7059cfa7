use Rattle.dn_roster.proofs.OneOwnersList.{one_list}
use Rattle.dn_roster.proofs.laws.owners_are_one_list.Goals as goal

pub returns : goal.returns
returns c = one_list
