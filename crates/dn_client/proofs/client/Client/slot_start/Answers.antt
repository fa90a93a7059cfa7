use Rattle.std.proofs.Common.{sym, subst, None, Some}
use Rattle.dn_client.specs.Client.{ClientView}
use Rattle.dn_client.specs.Accusing.{IsSlotStart, IsRangeIn}
use Rattle.dn_client.specs.Inside.{view_of}
use Rattle.dn_client.proofs.Jams.{starts_nowhere, starts_there}
use Rattle.dn_client.proofs.client.Client.slot_start.Goals as goal

pub returns-in_err-first-clause-start : goal.returns-in_err-first-clause-start
returns-in_err-first-clause-start c =
    subst (λ x. IsSlotStart c.args.self.now c.args.r x) (sym c.from_residual-in_err-first.ensures)
    (subst (λ v. IsSlotStart v c.args.r None) c.self.view_is
    (starts_nowhere (view_of c.self.inside) c.args.r c.in_ok-body.body.now c.self.invariant.client c.in_ok-body.ensures.body
    (subst (λ (v : ClientView). IsRangeIn v c.in_ok-body.body.now None) (sym c.self.view_is) c.in_err-first.ensures)))

pub returns-clause-start : goal.returns-clause-start
returns-clause-start c =
    subst (λ v. IsSlotStart v c.args.r (Some c.in_ok-first.first)) c.self.view_is
    (starts_there (view_of c.self.inside) c.args.r c.in_ok-body.body.now c.in_ok-first.first c.in_ok-first.field-0-1 c.self.invariant.client c.in_ok-body.ensures.body
    (subst (λ (v : ClientView). IsRangeIn v c.in_ok-body.body.now (Some (c.in_ok-first.first, c.in_ok-first.field-0-1))) (sym c.self.view_is) c.in_ok-first.ensures))
