use Rattle.std.proofs.Common.{◌∙◌, sym, ap}
use Rattle.dn_server.specs.Parts.{live, view_of}
use Rattle.dn_server.specs.Server.{ServerView}
use Rattle.dn_exchange.proofs.CallsWhole.{abandons_whole, whole_disciplined, whole_settled}
use Rattle.dn_exchange.proofs.SeatStays.{abandons_seat, abandons_bent}
use Rattle.dn_exchange.proofs.server_core.ServerCore.abandon.Goals as goal

pub invariant_of-self-2 : goal.invariant_of-self-2
invariant_of-self-2 c = λ e.
    let v = live c.self.inside.parts in
    let w = live c.abandon.new.parts in
    abandons_whole v (c.self.invariant c.if-self.false) c.in_ok-answer.answer w c.in_ok-answer.ensures

pub returns-clause-seat : goal.returns-clause-seat
returns-clause-seat c =
    let v = live c.self.inside.parts in
    let w = live c.abandon.new.parts in
    abandons_seat v c.in_ok-answer.answer w c.in_ok-answer.ensures ∙ ap (λ (x : ServerView). x.seat) (ap (view_of c.self.inside.parts) (sym c.if-self.false) ∙ c.self.view_is)

pub returns-clause-bent : goal.returns-clause-bent
returns-clause-bent c =
    let v = live c.self.inside.parts in
    let w = live c.abandon.new.parts in
    abandons_bent v c.in_ok-answer.answer w c.in_ok-answer.ensures ∙ ap (λ (x : ServerView). x.bent) (ap (view_of c.self.inside.parts) (sym c.if-self.false) ∙ c.self.view_is)

pub returns-clause-disciplined : goal.returns-clause-disciplined
returns-clause-disciplined c = λ b.
    let v = live c.self.inside.parts in
    let w = live c.abandon.new.parts in
    whole_disciplined w (abandons_whole v (c.self.invariant c.if-self.false) c.in_ok-answer.answer w c.in_ok-answer.ensures) b

pub returns-clause-settled : goal.returns-clause-settled
returns-clause-settled c = λ b runs.
    let v = live c.self.inside.parts in
    let w = live c.abandon.new.parts in
    whole_settled w (abandons_whole v (c.self.invariant c.if-self.false) c.in_ok-answer.answer w c.in_ok-answer.ensures) b runs
