use Rattle.std.proofs.Common.{◌≡◌, [], refl, sym, ap, ◌∙◌}
use Rattle.std.proofs.lemmas.List.{append-nil}
use Rattle.std.proofs.lemmas.Result.{IfOk-weaker}
use Rattle.dn_flight.specs.Flight.{FlightView}
use Rattle.dn_state.specs.Inside.{parts_of}
use Rattle.dn_state.specs.Parts.{PartsView}
use Rattle.dn_state.specs.Delivering.{without_message}
use Rattle.dn_state.specs.Delivering.ReachesServer.{passes}
use Rattle.dn_state.proofs.DeliverLemmas.{reaches_reply, some_of, none_of}
use Rattle.dn_state.proofs.delivering.reach_server.Goals as goal

pub returns-in-Some-clause-reaches : goal.returns-in-Some-clause-reaches
returns-in-Some-clause-reaches g c =
    let reply = c.in-Some.reply in
    let made = some_of _ _ _ _ c.in-Some.is c.in_ok-reply.ensures.replies in
    IfOk-weaker c.take_up.result _ _
    (λ _ done. (
      done.0,
      reaches_reply c.args.msg c.args.server c.args.state.now c.answer_to.new.state c.take_up.new.state done.0 made.0 made.1 reply.answer reply.last made.2 made.3 made.4 done.1,
      done.2,
    ))
    c.take_up.ensures.comes

pub returns-in-None-clause-reaches : goal.returns-in-None-clause-reaches
returns-in-None-clause-reaches g c =
    let rests = none_of _ _ _ c.in-None.is c.in_ok-reply.ensures.replies in
    let id = c.args.msg.id in
    let parts = parts_of c.state.inside in
    let new = parts_of record c.state.inside { flight = c.take_message.new.flight } in
    let taken : new ≡ without_message parts id = ap (λ (f : FlightView). record parts { flight = f }) c.take_message.ensures in
    let same : without_message parts id ≡ without_message c.args.state.now id = ap (λ (v : PartsView). without_message v id) (c.state.view_is ∙ rests.0) in
    ([], passes rests.1 (taken ∙ same, refl), sym (append-nil c.args.outcomes.now.items))
