use Rattle.std.proofs.Common.{◌≢◌, true, [], Some, inr, refl, sym, ap, subst, ◌∙◌}
use Rattle.std.specs.Prelude.{slice_get}
use Rattle.std.proofs.lemmas.Bool.{false≢true}
use Rattle.std.proofs.lemmas.List.{append-nil}
use Rattle.std.proofs.lemmas.Result.{IfOk-weaker}
use Rattle.dn_state.specs.Inside.{parts_of}
use Rattle.dn_state.specs.Delivering.{ReachesClient, ComesOfReached}
use Rattle.dn_state.specs.Delivering.ReachesClient.{passes}
use Rattle.dn_state.proofs.CallLemmas.{of_clients}
use Rattle.dn_state.proofs.DeliverLemmas.{reaches_by}
use Rattle.dn_state.proofs.delivering.reach_client.Goals as goal

pub returns-in_default-reached_at-clause-reaches : goal.returns-in_default-reached_at-clause-reaches
returns-in_default-reached_at-clause-reaches c =
    let old = parts_of c.state.inside in
    let new = parts_of record c.state.inside { clients = c.reached_at.new.clients } in
    let i = c.args.client in
    let none = c.in_default-reached_at.ensures in
    let stays : slice_get old.left i.0 ≢ Some true =
    λ is. false≢true (sym c.if-has_left.false ∙ c.has_left.ensures.1 (cc)) in (
      [],
      subst (λ v. ReachesClient i c.args.payload v new []) c.state.view_is (passes stays (inr none.none) (ap (λ cs. of_clients old cs) none.same, refl)),
      sym (append-nil c.args.outcomes.now.items),
    )

pub returns-clause-reaches : goal.returns-clause-reaches
returns-clause-reaches c =
    let old = parts_of c.state.inside in
    let i = c.args.client in
    let x = c.in-Some.opened.now in
    let reached = c.in-Some-reached_at.reached in
    let stays : slice_get old.left i.0 ≢ Some true =
    λ is. false≢true (sym c.if-has_left.false ∙ c.has_left.ensures.1 (cc)) in
    IfOk-weaker c.carry_reached.result _ _
    (λ _ done. (
      done.0,
      subst (λ v. ReachesClient i c.args.payload v c.carry_reached.new.state done.0) c.state.view_is
          (reaches_by i c.args.payload old c.carry_reached.new.state c.reached_at.new.clients.items done.0 x reached stays c.in-Some.ensures.value c.in-Some-reached_at.ensures
          (subst (λ b. ComesOfReached i b reached (of_clients old c.reached_at.new.clients.items) c.carry_reached.new.state done.0) c.in_ok-body.ensures done.1)),
      done.2,
    ))
    c.carry_reached.ensures.comes
