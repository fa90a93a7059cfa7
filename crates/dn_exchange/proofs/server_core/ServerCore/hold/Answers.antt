use Rattle.std.proofs.Common.{◌∙◌, sym, ap, subst}
use Rattle.dn_cert.specs.Certificate.{IsCertificateUnder}
use Rattle.dn_server.specs.Parts.{live, view_of}
use Rattle.dn_server.specs.Server.{ServerView}
use Rattle.dn_exchange.proofs.CallsWhole.{holds_whole, whole_disciplined, whole_settled}
use Rattle.dn_exchange.proofs.SeatStays.{holds_seat, holds_bent}
use Rattle.dn_exchange.proofs.server_core.ServerCore.hold.Goals as goal

pub invariant_of-self-2 : goal.invariant_of-self-2
invariant_of-self-2 c = λ e.
    let v = live c.self.inside.parts in
    let w = live c.hold.new.parts in
    let under = subst (λ (x : ServerView). IsCertificateUnder x.seat.roster c.args.c.now) (sym c.self.view_is) c.requires in
    holds_whole v (c.self.invariant c.if-self.false) c.args.c.now c.in_ok-answer.answer w c.in_ok-answer.ensures.chain c.in_ok-answer.ensures.certificate under c.in_ok-answer.ensures.holds

pub returns-clause-seat : goal.returns-clause-seat
returns-clause-seat c =
    let v = live c.self.inside.parts in
    let w = live c.hold.new.parts in
    holds_seat v c.args.c.now c.in_ok-answer.answer w c.in_ok-answer.ensures.holds ∙ ap (λ (x : ServerView). x.seat) (ap (view_of c.self.inside.parts) (sym c.if-self.false) ∙ c.self.view_is)

pub returns-clause-bent : goal.returns-clause-bent
returns-clause-bent c =
    let v = live c.self.inside.parts in
    let w = live c.hold.new.parts in
    holds_bent v c.args.c.now c.in_ok-answer.answer w c.in_ok-answer.ensures.holds ∙ ap (λ (x : ServerView). x.bent) (ap (view_of c.self.inside.parts) (sym c.if-self.false) ∙ c.self.view_is)

pub returns-clause-disciplined : goal.returns-clause-disciplined
returns-clause-disciplined c = λ b.
    let v = live c.self.inside.parts in
    let w = live c.hold.new.parts in
    let under = subst (λ (x : ServerView). IsCertificateUnder x.seat.roster c.args.c.now) (sym c.self.view_is) c.requires in
    whole_disciplined w (holds_whole v (c.self.invariant c.if-self.false) c.args.c.now c.in_ok-answer.answer w c.in_ok-answer.ensures.chain c.in_ok-answer.ensures.certificate under c.in_ok-answer.ensures.holds) b

pub returns-clause-settled : goal.returns-clause-settled
returns-clause-settled c = λ b runs.
    let v = live c.self.inside.parts in
    let w = live c.hold.new.parts in
    let under = subst (λ (x : ServerView). IsCertificateUnder x.seat.roster c.args.c.now) (sym c.self.view_is) c.requires in
    whole_settled w (holds_whole v (c.self.invariant c.if-self.false) c.args.c.now c.in_ok-answer.answer w c.in_ok-answer.ensures.chain c.in_ok-answer.ensures.certificate under c.in_ok-answer.ensures.holds) b runs
