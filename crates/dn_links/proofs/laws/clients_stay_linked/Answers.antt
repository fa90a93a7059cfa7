use Rattle.dn_links.proofs.Clients.{client_linked_after}
use Rattle.dn_links.proofs.laws.clients_stay_linked.Goals as goal

pub returns : goal.returns
returns c = client_linked_after
