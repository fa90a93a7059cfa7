use Rattle.dn_links.proofs.Settling.{gone_on}
use Rattle.dn_links.proofs.laws.settled_cores_have_gone_on.Goals as goal

pub returns : goal.returns
returns c = gone_on
