use Rattle.std.proofs.Common.{sym, subst, ℕ, None}
use Rattle.std.specs.Prelude.{MatchOption}
use Rattle.dn_client.specs.Client.{ClientView, IsClient}
use Rattle.dn_client.specs.Accusing.{IsRangeIn, IsJammed, IsFirstJammed}
use Rattle.dn_client.specs.Inside.{view_of}
use Rattle.dn_client.proofs.Listing.{ascends_of}
use Rattle.dn_client.proofs.Jams.{IsBodyAt, jams_nowhere, first_jam, own_text_is}
use Rattle.dn_client.proofs.client.Client.first_jammed.Goals as goal

pub own_text-requires : goal.own_text-requires
own_text-requires c = ascends_of c.self.inside.chain c.in_ok-body.body.now c.self.invariant.client.chain c.in_ok-body.ensures.body.0

pub returns-in_err-first-clause-jammed : goal.returns-in_err-first-clause-jammed
returns-in_err-first-clause-jammed c =
    subst (λ x. MatchOption x ((k : ℕ) → ¬ IsJammed c.args.self.now c.args.r k) (IsFirstJammed c.args.self.now c.args.r)) (sym c.from_residual-in_err-first.ensures)
    (subst (λ v. (k : ℕ) → ¬ IsJammed v c.args.r k) c.self.view_is
    (jams_nowhere (view_of c.self.inside) c.args.r c.in_ok-body.body.now c.self.invariant.client c.in_ok-body.ensures.body
    (subst (λ (v : ClientView). IsRangeIn v c.in_ok-body.body.now None) (sym c.self.view_is) c.in_err-first.ensures)))

pub returns-clause-jammed : goal.returns-clause-jammed
returns-clause-jammed c =
    let v = c.args.self.now in
    let b = c.in_ok-body.body.now in
    let is = subst IsClient c.self.view_is c.self.invariant.client in
    let there = subst (λ w. IsBodyAt w c.args.r b) c.self.view_is c.in_ok-body.ensures.body in
    let mine = own_text_is v b c.own_text.result c.own_text.ensures.some c.own_text.ensures.none in
    first_jam v c.args.r b c.own_text.result mine.0 c.in_ok-first.first c.in_ok-first.past is there c.in_ok-first.ensures mine.1 mine.2 c.first_differing.result c.first_differing.ensures
