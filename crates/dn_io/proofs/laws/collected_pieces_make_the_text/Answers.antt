use Rattle.dn_io.proofs.PieceLemmas.{collected_goes_on, collected_stops, collected_finishes}
use Rattle.dn_io.proofs.laws.collected_pieces_make_the_text.Goals as goal

pub returns-clause-goes_on : goal.returns-clause-goes_on
returns-clause-goes_on c = collected_goes_on

pub returns-clause-stops : goal.returns-clause-stops
returns-clause-stops c = collected_stops

pub returns-clause-finishes : goal.returns-clause-finishes
returns-clause-finishes c = collected_finishes
