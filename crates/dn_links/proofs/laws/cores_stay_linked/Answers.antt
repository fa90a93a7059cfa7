use Rattle.dn_links.proofs.Moving.{still_linked}
use Rattle.dn_links.proofs.laws.cores_stay_linked.Goals as goal

pub returns : goal.returns
returns c = still_linked
