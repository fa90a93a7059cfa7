use Rattle.std.proofs.Common.{rules, ◌≡◌, ◌∷◌, [], true, false, Some, None, refl, sym, ap, subst}
use Rattle.std.proofs.lemmas.Result.{IfOk-weaker}
use Rattle.dn_flight.specs.Flight.{FlightView, with_id}
use Rattle.dn_audit.specs.Group.{is_corrupt}
use Rattle.dn_report.specs.declared.outcome.Outcome.TheVariants as outcomes
use Rattle.dn_state.specs.Inside.{parts_of}
use Rattle.dn_state.specs.Delivering.{Delivers, Reaches, IsTaken, without_message, unopened_at}
use Rattle.dn_state.specs.Delivering.Delivers.{is_taken, is_unopened, reaches}
use Rattle.dn_state.proofs.delivering.deliver.Goals as goal

pub returns-then-is_corrupt-clause-delivers : goal.returns-then-is_corrupt-clause-delivers
returns-then-is_corrupt-clause-delivers g c =
    let old = parts_of c.state.inside in
    let id = c.args.id in
    let m = c.in-Some.msg in
    let new = c.reach_corrupt.new.state in
    let found : with_id id old.flight.msgs ≡ Some m = first_of (cc, search rules) in
    let corrupt : is_corrupt old.group m.to ≡ true = first_of (cc, search rules) in
    let taken = subst (λ (f : FlightView). IsTaken m.payload m.to (record old { flight = f }) new) c.take_message.ensures c.in_ok-reach_corrupt.ensures.taken in
    (outcomes.Taken ∷ [], subst (λ v. Delivers id v new (outcomes.Taken ∷ [])) c.state.view_is (is_taken m new found corrupt taken (refl, refl)), c.in_ok-push-2.ensures.items)

pub returns-in-None-clause-delivers : goal.returns-in-None-clause-delivers
returns-in-None-clause-delivers g c =
    let old = parts_of c.state.inside in
    let id = c.args.id in
    let m = c.in-Some.msg in
    let new = c.reach.new.state in
    let found : with_id id old.flight.msgs ≡ Some m = first_of (cc, search rules) in
    let honest : is_corrupt old.group m.to ≡ false = first_of (cc, search rules) in
    let opens : unopened_at old m.payload ≡ None = first_of (cc, search rules) in
    IfOk-weaker c.reach.result _ _
    (λ _ done. (done.0, subst (λ v. Delivers id v new done.0) c.state.view_is (reaches m found honest opens (subst (λ v. Reaches m m.to v new done.0) (sym c.state.view_is) done.1)), done.2))
    c.reach.ensures.reaches

pub returns-in_ok-push-in-Some-unopened_in-clause-delivers : goal.returns-in_ok-push-in-Some-unopened_in-clause-delivers
returns-in_ok-push-in-Some-unopened_in-clause-delivers g c =
    let old = parts_of c.state.inside in
    let id = c.args.id in
    let m = c.in-Some.msg in
    let word = c.in-Some-unopened_in.word in
    let flight = c.take_message-in-Some-unopened_in.new.flight in
    let new = parts_of record c.state.inside { flight = flight } in
    let found : with_id id old.flight.msgs ≡ Some m = first_of (cc, search rules) in
    let honest : is_corrupt old.group m.to ≡ false = first_of (cc, search rules) in
    let closed : unopened_at old m.payload ≡ Some word = first_of (cc, search rules) in
    let parts : new ≡ without_message old id = ap (λ (f : FlightView). record old { flight = f }) c.take_message-in-Some-unopened_in.ensures in (
      outcomes.Unopened word ∷ [],
      subst (λ v. Delivers id v new (outcomes.Unopened word ∷ [])) c.state.view_is (is_unopened m word found honest closed (parts, refl)),
      c.in_ok-push-in-Some-unopened_in.ensures.items,
    )
