use Rattle.std.proofs.Common.{[], subst}
use Rattle.std.proofs.lemmas.Result.{IfOk-weaker}
use Rattle.dn_state.specs.Inside.{parts_of}
use Rattle.dn_state.specs.Calling.{SaysText}
use Rattle.dn_state.proofs.ClientLemmas.{says_by}
use Rattle.dn_state.proofs.calling.say.Goals as goal

pub returns-clause-says : goal.returns-clause-says
returns-clause-says c =
    let old = parts_of c.state.inside in
    let new = parts_of record c.state.inside { clients = c.say_to.new.clients } in
    let i = c.args.client in
    let text = c.args.text.now in
    IfOk-weaker c.say_to.result _ _ (λ _ said. subst (λ v. SaysText i text v new []) c.state.view_is (says_by old i c.say_to.new.clients.items text said)) c.say_to.ensures
