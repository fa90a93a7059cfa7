use Rattle.std.proofs.Common.{rules, ◌≡◌, Some, None, ap, ◌∙◌}
use Rattle.std.specs.Prelude.{slice_set}
use Rattle.dn_state.specs.Members.{core_at}
use Rattle.dn_state.proofs.CoreLemmas.{set_none, set_twice}
use Rattle.dn_state.proofs.delivering.reached_at.Goals as goal

pub returns-in_default : goal.returns-in_default
returns-in_default c =
    let cores = c.args.clients.now.items in
    let k = c.args.client.0 in
    let none : core_at cores k ≡ None = first_of (cc, search rules) in
    record { none = none; same = c.take_client.ensures.left ∙ set_none cores k none }

pub returns : goal.returns
returns c =
    let cores = c.args.clients.now.items in
    let k = c.args.client.0 in
    let before = c.in-Some.core in
    let after = c.reached_client-reached.new.core in
    let there : core_at cores k ≡ Some before = first_of (cc, search rules) in
    record {
      before = before;
      after = after;
      there = there;
      called = c.reached_client-reached.ensures;
      kept = c.put_client.ensures ∙ ap (λ xs. slice_set xs k (Some after)) c.take_client.ensures.left ∙ set_twice cores k None (Some after);
    }
