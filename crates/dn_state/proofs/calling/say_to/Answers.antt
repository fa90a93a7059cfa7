use Rattle.std.proofs.Common.{rules, ◌≡◌, Some, None, inl, inr}
use Rattle.std.proofs.lemmas.Result.{IfOk-weaker}
use Rattle.dn_state.specs.Members.{core_at}
use Rattle.dn_state.specs.Calling.{with_text}
use Rattle.dn_state.proofs.ClientLemmas.{takes_no_core, turns_by}
use Rattle.dn_state.proofs.calling.say_to.Goals as goal

pub returns-in_default : goal.returns-in_default
returns-in_default c =
    let cores = c.args.clients.now.items in
    let k = c.args.client.0 in
    let none : core_at cores k ≡ None = first_of (cc, search rules) in
    inl (takes_no_core cores c.take_client.new.clients.items k c.take_client.ensures.left none)

pub returns : goal.returns
returns c =
    let cores = c.args.clients.now.items in
    let k = c.args.client.0 in
    let before = c.in-Some.core in
    let there : core_at cores k ≡ Some before = first_of (cc, search rules) in
    IfOk-weaker c.say-said.result _ _
    (λ _ said.
    inr (turns_by cores c.take_client.new.clients.items k c.take_client.ensures.left c.put_client.new.clients.items (λ b a. a ≡ with_text b c.args.text.now) before c.say-said.new.self there
    c.put_client.ensures said))
    c.say-said.ensures.said
