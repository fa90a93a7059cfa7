use Rattle.dn_layout.proofs.RoundTrip.{read_of-block_of}
use Rattle.dn_layout.proofs.laws.block_round_trip.Goals as goal

pub returns : goal.returns
returns c = read_of-block_of
