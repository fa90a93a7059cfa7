use Rattle.std.proofs.Common.{◌∙◌, sym, ap, subst}
use Rattle.dn_server.specs.Parts.{live, view_of}
use Rattle.dn_server.specs.Server.{ServerView}
use Rattle.dn_exchange.specs.Closing.{Shuts}
use Rattle.dn_exchange.proofs.CloseSound.{can_close}
use Rattle.dn_exchange.proofs.CallsWhole.{shuts_due, shuts_whole, whole_disciplined, whole_settled}
use Rattle.dn_exchange.proofs.SeatStays.{shuts_seat, shuts_bent}
use Rattle.dn_exchange.proofs.server_core.ServerCore.close.Goals as goal

pub close-requires-after_bounds : goal.close-requires-after_bounds
close-requires-after_bounds g c = λ κs within. can_close c.self.inside.parts (c.self.invariant c.if-self.false).sound

pub invariant_of-self-2 : goal.invariant_of-self-2
invariant_of-self-2 g c = λ e.
    let v = live c.self.inside.parts in
    let w = live c.close.new.parts in
    shuts_whole v (c.self.invariant c.if-self.false) c.in_ok-answer.answer w c.in_ok-answer.ensures

pub returns-clause-answer : goal.returns-clause-answer
returns-clause-answer g c =
    subst (λ (x : ServerView). Shuts x c.in_ok-answer.answer (live c.close.new.parts)) (ap (view_of c.self.inside.parts) (sym c.if-self.false) ∙ c.self.view_is) c.in_ok-answer.ensures

pub returns-clause-seat : goal.returns-clause-seat
returns-clause-seat g c =
    let v = live c.self.inside.parts in
    let w = live c.close.new.parts in
    shuts_seat v c.in_ok-answer.answer w c.in_ok-answer.ensures ∙ ap (λ (x : ServerView). x.seat) (ap (view_of c.self.inside.parts) (sym c.if-self.false) ∙ c.self.view_is)

pub returns-clause-bent : goal.returns-clause-bent
returns-clause-bent g c =
    let v = live c.self.inside.parts in
    let w = live c.close.new.parts in
    shuts_bent v c.in_ok-answer.answer w c.in_ok-answer.ensures ∙ ap (λ (x : ServerView). x.bent) (ap (view_of c.self.inside.parts) (sym c.if-self.false) ∙ c.self.view_is)

pub returns-clause-disciplined : goal.returns-clause-disciplined
returns-clause-disciplined g c = λ b.
    let v = live c.self.inside.parts in
    let w = live c.close.new.parts in
    whole_disciplined w (shuts_whole v (c.self.invariant c.if-self.false) c.in_ok-answer.answer w c.in_ok-answer.ensures) b

pub returns-clause-settled : goal.returns-clause-settled
returns-clause-settled g c = λ b runs.
    let v = live c.self.inside.parts in
    let w = live c.close.new.parts in
    whole_settled w (shuts_whole v (c.self.invariant c.if-self.false) c.in_ok-answer.answer w c.in_ok-answer.ensures) b runs

pub returns-clause-bodies : goal.returns-clause-bodies
returns-clause-bodies g c = λ b.
    let v = live c.self.inside.parts in
    let w = live c.close.new.parts in
    shuts_due v (c.self.invariant c.if-self.false) c.in_ok-answer.answer w c.in_ok-answer.ensures b
