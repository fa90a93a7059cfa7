use Rattle.dn_exchange.proofs.SeatStays.{hears_seat}
use Rattle.dn_crew.proofs.delivering.answer_of.Goals as goal

pub returns-in_ok-hear-in-Plain-clause-seat : goal.returns-in_ok-hear-in-Plain-clause-seat
returns-in_ok-hear-in-Plain-clause-seat g c = hears_seat c.args.core.now c.in-Plain.said _ c.hear.new.self c.in_ok-hear-in-Plain.ensures.answer
