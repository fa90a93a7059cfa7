use Rattle.dn_client.proofs.Envelopes.{made_unseals, accusation_unseals}
use Rattle.dn_client.proofs.laws.envelopes_unseal.Goals as goal

pub returns : goal.returns
returns c = record { made = made_unseals; accused = accusation_unseals }
