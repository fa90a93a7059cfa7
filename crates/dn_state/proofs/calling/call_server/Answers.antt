use Rattle.std.proofs.Common.{rules, ◌≡◌, [], Some, None, refl, sym, subst, ap, ◌∙◌}
use Rattle.std.proofs.lemmas.List.{append-nil}
use Rattle.std.proofs.lemmas.Result.{IfOk-weaker}
use Rattle.dn_state.specs.Inside.{parts_of}
use Rattle.dn_state.specs.Members.{server_at}
use Rattle.dn_state.specs.Acting.{ComesOf}
use Rattle.dn_state.specs.Calling.{CallsServer}
use Rattle.dn_state.proofs.CallLemmas.{of_servers, put_back, takes_none, calls_server, calls_none}
use Rattle.dn_state.proofs.calling.call_server.Goals as goal

pub returns-in_default-clause-calls : goal.returns-in_default-clause-calls
returns-in_default-clause-calls g c =
    let old = parts_of c.state.inside in
    let new = parts_of record c.state.inside { servers = c.take_server.new.servers } in
    let j = c.args.server in
    let none : server_at old j ≡ None = first_of (cc, search rules) in
    let same = ap (λ servers. of_servers old servers) (takes_none old j c.take_server.new.servers.items c.take_server.ensures.left none) in
    ([], subst (λ v. CallsServer c.args.call j v new []) c.state.view_is (calls_none old new c.args.call j [] none same refl), sym (append-nil c.args.outcomes.now.items))

pub invariant_of-state-in_err-answer : goal.invariant_of-state-in_err-answer
invariant_of-state-in_err-answer g c = record {
  of_group = (c.take_server.ensures.group c.state.inside.payloads.roster c.state.invariant.of_group).0;
  said = c.state.invariant.said;
}

pub invariant_of-state-in_err-note_sum : goal.invariant_of-state-in_err-note_sum
invariant_of-state-in_err-note_sum g c = record {
  of_group = (c.take_server.ensures.group c.state.inside.payloads.roster c.state.invariant.of_group).0;
  said = c.state.invariant.said;
}

pub invariant_of-state-2 : goal.invariant_of-state-2
invariant_of-state-2 g c = record {
  of_group =
      let roster = c.state.inside.payloads.roster in
      c.put_server.ensures.group roster (c.take_server.ensures.group roster c.state.invariant.of_group).0
      (ap (λ s. s.roster) c.in_ok-answer.ensures.rules.seat ∙ (c.in-Some.ensures.group roster c.state.invariant.of_group).1);
  said = c.state.invariant.said;
}

pub returns-clause-calls : goal.returns-clause-calls
returns-clause-calls g c =
    let old = parts_of c.state.inside in
    let given = parts_of record c.state.inside { servers = c.put_server.new.servers; auditor = c.note_sum.new.auditor } in
    let j = c.args.server in
    let before = c.in-Some.core in
    let after = c.answer_of.new.core in
    let answer = c.in_ok-answer.answer in
    let there : server_at old j ≡ Some before = first_of (cc, search rules) in
    IfOk-weaker c.act_on.result _ _
    (λ _ done. (
      done.0,
      subst (λ v. CallsServer c.args.call j v c.act_on.new.state done.0) c.state.view_is
          (calls_server old c.act_on.new.state c.args.call j done.0 before after answer c.note_sum.new.auditor c.put_server.new.servers.items there c.in_ok-answer.ensures.answers
          c.in_ok-answer.ensures.rules c.in_ok-note_sum.ensures
          (put_back old j after c.take_server.new.servers.items c.put_server.new.servers.items c.take_server.ensures.left c.put_server.ensures.put)
          (subst (λ r. ComesOf j r answer given c.act_on.new.state done.0) c.last_opened-last.ensures done.1)),
      done.2,
    ))
    c.act_on.ensures.comes
