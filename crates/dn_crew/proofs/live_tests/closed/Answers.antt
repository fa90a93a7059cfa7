use Rattle.std.proofs.Common.{ap, ◌∙◌}
use Rattle.dn_exchange.proofs.SeatStays.{opens_seat, shuts_seat}
use Rattle.dn_crew.proofs.live_tests.closed.Goals as goal

pub returns : goal.returns
returns g c =
    ap (λ s. s.roster) (shuts_seat c.open_round.new.self _ c.close.new.self c.in_ok-answer.ensures.answer ∙ opens_seat c.in_ok-core.core _ _ c.open_round.new.self c.in_ok-open_round.ensures.answer)
    ∙ ap (λ v. v.seat.roster) c.in_ok-core.ensures.server
