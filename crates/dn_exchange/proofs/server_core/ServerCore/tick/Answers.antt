use Rattle.std.proofs.Common.{◌∙◌, sym, ap, subst}
use Rattle.dn_server.specs.Parts.{live, view_of}
use Rattle.dn_server.specs.Server.{ServerView}
use Rattle.dn_exchange.specs.Closing.{Ticks}
use Rattle.dn_exchange.proofs.CloseSound.{can_close}
use Rattle.dn_exchange.proofs.CallsWhole.{ticks_due, ticks_whole, whole_disciplined, whole_settled}
use Rattle.dn_exchange.proofs.SeatStays.{ticks_seat, ticks_bent}
use Rattle.dn_exchange.proofs.server_core.ServerCore.tick.Goals as goal

pub tick-requires-after_bounds : goal.tick-requires-after_bounds
tick-requires-after_bounds g c = λ κs within. can_close c.self.inside.parts (c.self.invariant c.if-self.false).sound

pub invariant_of-self-2 : goal.invariant_of-self-2
invariant_of-self-2 g c = λ e.
    let v = live c.self.inside.parts in
    let w = live c.tick.new.parts in
    ticks_whole v (c.self.invariant c.if-self.false) c.in_ok-answer.answer w c.in_ok-answer.ensures

pub returns-clause-answer : goal.returns-clause-answer
returns-clause-answer g c =
    subst (λ (x : ServerView). Ticks x c.in_ok-answer.answer (live c.tick.new.parts)) (ap (view_of c.self.inside.parts) (sym c.if-self.false) ∙ c.self.view_is) c.in_ok-answer.ensures

pub returns-clause-seat : goal.returns-clause-seat
returns-clause-seat g c =
    let v = live c.self.inside.parts in
    let w = live c.tick.new.parts in
    ticks_seat v c.in_ok-answer.answer w c.in_ok-answer.ensures ∙ ap (λ (x : ServerView). x.seat) (ap (view_of c.self.inside.parts) (sym c.if-self.false) ∙ c.self.view_is)

pub returns-clause-bent : goal.returns-clause-bent
returns-clause-bent g c =
    let v = live c.self.inside.parts in
    let w = live c.tick.new.parts in
    ticks_bent v c.in_ok-answer.answer w c.in_ok-answer.ensures ∙ ap (λ (x : ServerView). x.bent) (ap (view_of c.self.inside.parts) (sym c.if-self.false) ∙ c.self.view_is)

pub returns-clause-disciplined : goal.returns-clause-disciplined
returns-clause-disciplined g c = λ b.
    let v = live c.self.inside.parts in
    let w = live c.tick.new.parts in
    whole_disciplined w (ticks_whole v (c.self.invariant c.if-self.false) c.in_ok-answer.answer w c.in_ok-answer.ensures) b

pub returns-clause-settled : goal.returns-clause-settled
returns-clause-settled g c = λ b runs.
    let v = live c.self.inside.parts in
    let w = live c.tick.new.parts in
    whole_settled w (ticks_whole v (c.self.invariant c.if-self.false) c.in_ok-answer.answer w c.in_ok-answer.ensures) b runs

pub returns-clause-bodies : goal.returns-clause-bodies
returns-clause-bodies g c = λ b.
    let v = live c.self.inside.parts in
    let w = live c.tick.new.parts in
    ticks_due v (c.self.invariant c.if-self.false) c.in_ok-answer.answer w c.in_ok-answer.ensures b
