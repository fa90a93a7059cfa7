use Rattle.dn_headline.proofs.Output.{honest_servers_add_nothing_lem}
use Rattle.dn_headline.proofs.promises.honest_servers_add_nothing.Goals as goal

pub returns : goal.returns
returns c = honest_servers_add_nothing_lem
