use Rattle.dn_headline.proofs.Output.{honest_clients_add_their_text_lem}
use Rattle.dn_headline.proofs.promises.honest_clients_add_their_text.Goals as goal

pub returns : goal.returns
returns c = honest_clients_add_their_text_lem
