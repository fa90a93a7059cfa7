use Rattle.std.proofs.Common.{◌∙◌, sym, ap, subst, rules}
use Rattle.dn_seal.specs.Said.{IsUnder}
use Rattle.dn_server.specs.Parts.{live, view_of}
use Rattle.dn_server.specs.Server.{ServerView}
use Rattle.dn_exchange.specs.Listening.{Hears}
use Rattle.dn_exchange.proofs.HearSound.{can_hear}
use Rattle.dn_exchange.proofs.CallsWhole.{hears_due, hears_whole, whole_disciplined, whole_settled}
use Rattle.dn_exchange.proofs.SeatStays.{hears_seat, hears_bent}
use Rattle.dn_exchange.proofs.server_core.ServerCore.hear.Goals as goal

pub hear-requires : goal.hear-requires
hear-requires g c =
    let p = c.self.inside.parts in
    let was = c.self.invariant c.if-self.false in
    let under = subst (λ (x : ServerView). IsUnder x.seat.roster c.args.said.now) (sym c.self.view_is) c.requires in
    (search rules, ((λ j by round said. can_hear p j c.args.said.now was.sound round said under), (was.openings.can, under)))

pub invariant_of-self-2 : goal.invariant_of-self-2
invariant_of-self-2 g c = λ e.
    let v = live c.self.inside.parts in
    let w = live c.hear.new.parts in
    let under = subst (λ (x : ServerView). IsUnder x.seat.roster c.args.said.now) (sym c.self.view_is) c.requires in
    hears_whole v (c.self.invariant c.if-self.false) c.args.said.now c.in_ok-answer.answer w c.in_ok-answer.ensures.said under c.in_ok-answer.ensures.heard

pub returns-clause-answer : goal.returns-clause-answer
returns-clause-answer g c =
    subst (λ (x : ServerView). Hears x c.args.said.now c.in_ok-answer.answer (live c.hear.new.parts)) (ap (view_of c.self.inside.parts) (sym c.if-self.false) ∙ c.self.view_is) c.in_ok-answer.ensures.heard

pub returns-clause-seat : goal.returns-clause-seat
returns-clause-seat g c =
    let v = live c.self.inside.parts in
    let w = live c.hear.new.parts in
    hears_seat v c.args.said.now c.in_ok-answer.answer w c.in_ok-answer.ensures.heard ∙ ap (λ (x : ServerView). x.seat) (ap (view_of c.self.inside.parts) (sym c.if-self.false) ∙ c.self.view_is)

pub returns-clause-bent : goal.returns-clause-bent
returns-clause-bent g c =
    let v = live c.self.inside.parts in
    let w = live c.hear.new.parts in
    hears_bent v c.args.said.now c.in_ok-answer.answer w c.in_ok-answer.ensures.heard ∙ ap (λ (x : ServerView). x.bent) (ap (view_of c.self.inside.parts) (sym c.if-self.false) ∙ c.self.view_is)

pub returns-clause-disciplined : goal.returns-clause-disciplined
returns-clause-disciplined g c = λ b.
    let v = live c.self.inside.parts in
    let w = live c.hear.new.parts in
    let under = subst (λ (x : ServerView). IsUnder x.seat.roster c.args.said.now) (sym c.self.view_is) c.requires in
    whole_disciplined w (hears_whole v (c.self.invariant c.if-self.false) c.args.said.now c.in_ok-answer.answer w c.in_ok-answer.ensures.said under c.in_ok-answer.ensures.heard) b

pub returns-clause-settled : goal.returns-clause-settled
returns-clause-settled g c = λ b runs.
    let v = live c.self.inside.parts in
    let w = live c.hear.new.parts in
    let under = subst (λ (x : ServerView). IsUnder x.seat.roster c.args.said.now) (sym c.self.view_is) c.requires in
    whole_settled w (hears_whole v (c.self.invariant c.if-self.false) c.args.said.now c.in_ok-answer.answer w c.in_ok-answer.ensures.said under c.in_ok-answer.ensures.heard) b runs

pub returns-clause-bodies : goal.returns-clause-bodies
returns-clause-bodies g c = λ b.
    let v = live c.self.inside.parts in
    let w = live c.hear.new.parts in
    let under = subst (λ (x : ServerView). IsUnder x.seat.roster c.args.said.now) (sym c.self.view_is) c.requires in
    hears_due v (c.self.invariant c.if-self.false) c.args.said.now c.in_ok-answer.answer w c.in_ok-answer.ensures.said under c.in_ok-answer.ensures.heard b
