use Rattle.dn_client.proofs.Discipline.{made_long}
use Rattle.dn_client.proofs.laws.ciphertexts_fill_their_rounds.Goals as goal

pub returns : goal.returns
returns c = made_long
