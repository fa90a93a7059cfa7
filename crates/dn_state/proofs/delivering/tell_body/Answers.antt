use Rattle.std.proofs.Common.{rules, ◌≡◌, Option, Some, subst}
use Rattle.std.proofs.lemmas.Result.{IfOk-weaker}
use Rattle.dn_record_types.specs.declared.body.Body.{Body}
use Rattle.dn_state.specs.Delivering.{TellsBody}
use Rattle.dn_state.proofs.delivering.tell_body.Goals as goal

pub returns-in-Some-clause-tells : goal.returns-in-Some-clause-tells
returns-in-Some-clause-tells c =
    let is : Some c.in-Some.body ≡ c.args.body.now = search rules in
    IfOk-weaker c.tell_round.result _ _
    (λ _ told. (told.0, subst (λ (b : Option Body). TellsBody b c.args.state.now c.tell_round.new.state told.0) is told.1, told.2))
    c.tell_round.ensures.tells
