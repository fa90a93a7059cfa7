use Rattle.dn_exchange.proofs.SeatStays.{opens_seat, submits_seat, ticks_seat, shuts_seat, hears_seat, holds_seat, abandons_seat}
use Rattle.dn_exchange.proofs.laws.seats_stay.Goals as goal

pub returns : goal.returns
returns c = record {
  opens = opens_seat;
  submits = submits_seat;
  ticks = ticks_seat;
  shuts = shuts_seat;
  hears = hears_seat;
  holds = holds_seat;
  abandons = abandons_seat;
}
