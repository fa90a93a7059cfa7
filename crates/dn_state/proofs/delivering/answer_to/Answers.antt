use Rattle.std.proofs.Common.{rules, ◌≡◌, Some, None, inr, sym, subst, ap, ◌∙◌}
use Rattle.dn_cert.specs.declared.opened.Opened.{Opened}
use Rattle.dn_server.specs.Server.{ServerView}
use Rattle.dn_state.specs.Inside.{parts_of}
use Rattle.dn_state.specs.Sound.{IsOfGroup}
use Rattle.dn_state.specs.Members.{server_at}
use Rattle.dn_state.specs.Delivering.{opened_at, Replies}
use Rattle.dn_state.proofs.CallLemmas.{of_servers, put_back, takes_none}
use Rattle.dn_state.proofs.DeliverLemmas.{ruled_seat}
use Rattle.dn_state.proofs.delivering.answer_to.Goals as goal

pub returns-in_default-take_server-clause-replies : goal.returns-in_default-take_server-clause-replies
returns-in_default-take_server-clause-replies g c =
    let old = parts_of c.state.inside in
    let none : server_at old c.args.server ≡ None = first_of (cc, search rules) in (
      ap (λ servers. of_servers old servers) (takes_none old c.args.server c.take_server.new.servers.items c.take_server.ensures.left none) ∙ c.state.view_is,
      inr (subst (λ v. server_at v c.args.server ≡ None) c.state.view_is none),
    )

pub answer_of-requires-after_bounds : goal.answer_of-requires-after_bounds
answer_of-requires-after_bounds g c =
    let roster = c.state.inside.payloads.roster in
    let of_group : IsOfGroup c.in-Some-take_server.core.seat.roster c.in-Some.opened.now =
    subst (λ r. IsOfGroup r c.in-Some.opened.now) (sym (c.in-Some-take_server.ensures.group roster c.state.invariant.of_group).1) c.in-Some.ensures.group in
    search rules

pub invariant_of-state-in_err-answer : goal.invariant_of-state-in_err-answer
invariant_of-state-in_err-answer g c = record {
  of_group = (c.take_server.ensures.group c.state.inside.payloads.roster c.state.invariant.of_group).0;
  said = c.state.invariant.said;
}

pub invariant_of-state-in_err-note_reply : goal.invariant_of-state-in_err-note_reply
invariant_of-state-in_err-note_reply g c = record {
  of_group = (c.take_server.ensures.group c.state.inside.payloads.roster c.state.invariant.of_group).0;
  said = c.state.invariant.said;
}

pub invariant_of-state-2 : goal.invariant_of-state-2
invariant_of-state-2 g c =
    let roster = c.state.inside.payloads.roster in
    let before = c.in-Some-take_server.core in
    record {
      of_group =
          c.put_server.ensures.group roster (c.take_server.ensures.group roster c.state.invariant.of_group).0
          (ap (λ s. s.roster) (ruled_seat c.in-Some.opened.now before c.answer_of.new.core c.in_ok-answer.ensures.rules)
          ∙ (c.in-Some-take_server.ensures.group roster c.state.invariant.of_group).1);
      said = c.state.invariant.said;
    }

pub returns-clause-replies : goal.returns-clause-replies
returns-clause-replies g c =
    let old = parts_of c.state.inside in
    let new = parts_of record c.state.inside { servers = c.put_server.new.servers; auditor = c.note_reply.new.auditor } in
    let j = c.args.server in
    let x = c.in-Some.opened.now in
    let before = c.in-Some-take_server.core in
    let after = c.answer_of.new.core in
    let answer = c.in_ok-answer.answer in
    let last = c.last_opened-last.result in
    let there : server_at old j ≡ Some before = first_of (cc, search rules) in
    subst (λ v. (y : Opened) × (b : ServerView) × (opened_at v c.args.payload ≡ Some y) × (server_at v j ≡ Some b) × Replies j y b answer last v new) c.state.view_is (
      x,
      before,
      c.in-Some.ensures.value,
      there,
      record {
        after = after;
        answered = c.in_ok-answer.ensures.answers;
        rules = c.in_ok-answer.ensures.rules;
        opened_last = c.last_opened-last.ensures;
        auditor = c.note_reply.new.auditor;
        noted = c.in_ok-note_reply.ensures;
        kept =
            ap (λ servers. record (of_servers old servers) { auditor = c.note_reply.new.auditor })
            (put_back old j after c.take_server.new.servers.items c.put_server.new.servers.items c.take_server.ensures.left c.put_server.ensures.put);
      },
    )
