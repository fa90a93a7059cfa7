use Rattle.std.proofs.Common.{◌∙◌, sym, ap, subst}
use Rattle.dn_seal.specs.Said.{IsUnder}
use Rattle.dn_server.specs.Parts.{live, view_of}
use Rattle.dn_server.specs.Server.{ServerView}
use Rattle.dn_exchange.proofs.CallsWhole.{takes_whole, whole_disciplined, whole_settled}
use Rattle.dn_exchange.proofs.SeatStays.{submits_seat, submits_bent}
use Rattle.dn_exchange.proofs.server_core.ServerCore.submitted.Goals as goal

pub invariant_of-self-2 : goal.invariant_of-self-2
invariant_of-self-2 c = λ e.
    let v = live c.self.inside.parts in
    let w = live c.submitted.new.parts in
    let under = subst (λ (x : ServerView). IsUnder x.seat.roster c.args.said.now) (sym c.self.view_is) c.requires.under in
    takes_whole v (c.self.invariant c.if-self.false) c.args.said.now c.args.cipher.now c.in_ok-answer.answer w c.in_ok-answer.ensures.said under c.in_ok-answer.ensures.takes

pub returns-clause-seat : goal.returns-clause-seat
returns-clause-seat c =
    let v = live c.self.inside.parts in
    let w = live c.submitted.new.parts in
    submits_seat v c.args.said.now c.args.cipher.now c.in_ok-answer.answer w c.in_ok-answer.ensures.takes ∙ ap (λ (x : ServerView). x.seat) (ap (view_of c.self.inside.parts) (sym c.if-self.false) ∙ c.self.view_is)

pub returns-clause-bent : goal.returns-clause-bent
returns-clause-bent c =
    let v = live c.self.inside.parts in
    let w = live c.submitted.new.parts in
    submits_bent v c.args.said.now c.args.cipher.now c.in_ok-answer.answer w c.in_ok-answer.ensures.takes ∙ ap (λ (x : ServerView). x.bent) (ap (view_of c.self.inside.parts) (sym c.if-self.false) ∙ c.self.view_is)

pub returns-clause-disciplined : goal.returns-clause-disciplined
returns-clause-disciplined c = λ b.
    let v = live c.self.inside.parts in
    let w = live c.submitted.new.parts in
    let under = subst (λ (x : ServerView). IsUnder x.seat.roster c.args.said.now) (sym c.self.view_is) c.requires.under in
    whole_disciplined w (takes_whole v (c.self.invariant c.if-self.false) c.args.said.now c.args.cipher.now c.in_ok-answer.answer w c.in_ok-answer.ensures.said under c.in_ok-answer.ensures.takes) b

pub returns-clause-settled : goal.returns-clause-settled
returns-clause-settled c = λ b runs.
    let v = live c.self.inside.parts in
    let w = live c.submitted.new.parts in
    let under = subst (λ (x : ServerView). IsUnder x.seat.roster c.args.said.now) (sym c.self.view_is) c.requires.under in
    whole_settled w (takes_whole v (c.self.invariant c.if-self.false) c.args.said.now c.args.cipher.now c.in_ok-answer.answer w c.in_ok-answer.ensures.said under c.in_ok-answer.ensures.takes) b runs
