use Rattle.std.proofs.Common.{rules, ◌≡◌, Some, None}
use Rattle.dn_state.specs.Members.{core_at}
use Rattle.dn_state.proofs.ClientLemmas.{leaves_none, leaves_some}
use Rattle.dn_state.proofs.calling.leave_core.Goals as goal

pub returns-in_default : goal.returns-in_default
returns-in_default c =
    let cores = c.args.clients.now.items in
    let k = c.args.client.0 in
    let none : core_at cores k ≡ None = first_of (cc, search rules) in
    leaves_none cores c.take_client.new.clients.items k c.take_client.ensures.left none

pub returns : goal.returns
returns c =
    let cores = c.args.clients.now.items in
    let k = c.args.client.0 in
    let before = c.in-Some.core in
    let there : core_at cores k ≡ Some before = first_of (cc, search rules) in
    leaves_some cores c.take_client.new.clients.items k c.take_client.ensures.left c.put_client.new.clients.items before c.leave.new.self there c.leave.ensures.left c.put_client.ensures
