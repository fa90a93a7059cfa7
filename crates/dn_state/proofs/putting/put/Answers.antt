use Rattle.std.proofs.Common.{◌++◌, refl, sym, ap, subst, ◌∙◌}
use Rattle.std.specs.Prelude.{All}
use Rattle.std.proofs.lemmas.List.{append_assoc}
use Rattle.std.proofs.lemmas.Result.{IfOk-weaker}
use Rattle.dn_seal.specs.Said.{IsUnder}
use Rattle.dn_payloads.specs.Payloads.{IsContent, IsNumbered}
use Rattle.dn_state.specs.Inside.{parts_of}
use Rattle.dn_state.specs.Sound.{AreOfGroup}
use Rattle.dn_state.specs.Putting.{post_lines, server_said, Puts}
use Rattle.dn_state.proofs.PuttingLemmas.{puts_all, said_under, heard_under, by_result}
use Rattle.dn_state.proofs.putting.put.Goals as goal

pub invariant_of-state-2 : goal.invariant_of-state-2
invariant_of-state-2 c =
    let inside = c.state.inside in
    let roster = c.put.new.self.roster in
    let found = c.in-Some.ensures in
    let content = c.in-Some.content.now in
    let said : All (IsUnder roster) inside.heard.items = subst (λ r. All (IsUnder r) inside.heard.items) (sym c.put.ensures.roster) c.state.invariant.said in
    let more = said_under roster found.0.bytes content (subst (IsContent roster found.0.bytes) found.2 found.3) in
    record {
      of_group = subst (λ r. AreOfGroup r inside.servers.items) (sym c.put.ensures.roster) c.state.invariant.of_group;
      said = by_result c.hear_server.result (All (IsUnder roster)) c.hear_server.new.heard.items _ inside.heard.items c.hear_server.ensures.heard c.hear_server.ensures.same
          (heard_under (IsUnder roster) c.in_ok-numbered.numbered.is_new inside.heard.items (server_said content) said more) said;
    }

pub returns-clause-puts : goal.returns-clause-puts
returns-clause-puts c =
    let inside = c.state.inside in
    let old = parts_of inside in
    let new = parts_of record inside {
      payloads = c.put.new.self;
      flight = c.send_each.new.flight;
      chain = c.follow_in.new.chain;
      heard = c.hear_server.new.heard;
      accused = c.note_accusation.new.accused;
      auditor = c.look_into.new.auditor;
    } in
    let n = c.in_ok-numbered.numbered in
    let bytes = c.args.bytes.now in
    let posted = post_lines n c.args.sender.member bytes in
    let each = c.in_ok-send_each.ensures in
    let numbered = subst (λ b. IsNumbered old.payloads b new.payloads n) c.in_ok-from_slice.ensures.items c.in_ok-numbered.ensures.numbered in
    IfOk-weaker c.hear_server.result _ _
    (λ _ heard. (
      posted ++ each.0,
      subst (λ v. Puts v c.args.sender c.args.to.now bytes new (posted ++ each.0)) c.state.view_is
          (puts_all old new c.args.sender c.args.to.now bytes n c.in-Some.content.now c.roster-roster.result.now c.note_own.new.auditor each.0 numbered c.in-Some.ensures
          (c.roster-roster.ensures ∙ c.put.ensures.roster) c.in_ok-note_own.ensures c.in_ok-look_into.ensures c.in_ok-follow_in.ensures c.in_ok-note_accusation.ensures each.1 heard
          record { roster = c.put.ensures.roster; group = refl; clients = refl; servers = refl; left = refl; told = refl; delivered = refl }),
      each.2 ∙ ap (λ xs. xs ++ each.0) c.in_ok-tell_new.ensures ∙ append_assoc c.args.outcomes.now.items posted each.0,
    ))
    c.hear_server.ensures.heard
