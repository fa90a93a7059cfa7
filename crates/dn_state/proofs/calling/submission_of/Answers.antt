use Rattle.std.proofs.Common.{rules, ◌≡◌, Some, None}
use Rattle.dn_state.specs.Members.{core_at}
use Rattle.dn_state.specs.Calling.{GivesSubmission}
use Rattle.dn_state.proofs.ClientLemmas.{gives_submission, takes_no_core, turns_by}
use Rattle.dn_state.proofs.calling.submission_of.Goals as goal

pub returns-in_default : goal.returns-in_default
returns-in_default c =
    let cores = c.args.clients.now.items in
    let k = c.args.client.0 in
    let none : core_at cores k ≡ None = first_of (cc, search rules) in
    takes_no_core cores c.take_client.new.clients.items k c.take_client.ensures.left none

pub returns : goal.returns
returns c =
    let cores = c.args.clients.now.items in
    let k = c.args.client.0 in
    let r = c.args.r in
    let before = c.in-Some.core in
    let given = c.submission-given.result in
    let after = c.submission-given.new.self in
    let does = c.submission-given.ensures in
    let there : core_at cores k ≡ Some before = first_of (cc, search rules) in
    turns_by cores c.take_client.new.clients.items k c.take_client.ensures.left c.put_client.new.clients.items (λ b a. GivesSubmission r b given a) before after there c.put_client.ensures
    (gives_submission r given before after does.given does.refused does.same does.client)
