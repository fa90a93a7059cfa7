use Rattle.dn_links.proofs.Clients.{texts_more}
use Rattle.dn_links.proofs.laws.texts_come_in_order.Goals as goal

pub returns : goal.returns
returns c = texts_more
