use Rattle.std.proofs.Common.{rules, ◌≡◌, subst}
use Rattle.std.proofs.lemmas.Result.{IfOk-weaker}
use Rattle.dn_wire.specs.declared.ids.Member.{Member}
use Rattle.dn_wire.specs.declared.ids.Member.TheVariants as members
use Rattle.dn_flight.specs.Flight.{FlightView}
use Rattle.dn_state.specs.Inside.{parts_of}
use Rattle.dn_state.specs.Delivering.{Reaches, ReachesClient, without_message}
use Rattle.dn_state.proofs.delivering.reach.Goals as goal

pub returns-in-Client-clause-reaches : goal.returns-in-Client-clause-reaches
returns-in-Client-clause-reaches g c =
    let old = parts_of c.state.inside in
    let m = c.args.msg in
    let i = c.in-Client.client in
    let new = c.reach_client.new.state in
    let is : members.Client i ≡ m.to = search rules in
    IfOk-weaker c.reach_client.result _ _
    (λ _ done. (
      done.0,
      subst (λ (to : Member). Reaches m to c.args.state.now new done.0) is
          (subst (λ v. ReachesClient i m.payload (without_message v m.id) new done.0) c.state.view_is
          (subst (λ (f : FlightView). ReachesClient i m.payload (record old { flight = f }) new done.0) c.take_message.ensures done.1)),
      done.2,
    ))
    c.reach_client.ensures.reaches

pub returns-in-Server-clause-reaches : goal.returns-in-Server-clause-reaches
returns-in-Server-clause-reaches g c =
    let m = c.args.msg in
    let is : members.Server c.in-Server.server ≡ m.to = search rules in
    IfOk-weaker c.reach_server.result _ _
    (λ _ done. (done.0, subst (λ (to : Member). Reaches m to c.args.state.now c.reach_server.new.state done.0) is done.1, done.2))
    c.reach_server.ensures.reaches
