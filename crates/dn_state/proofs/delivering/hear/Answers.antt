use Rattle.std.proofs.Common.{subst}
use Rattle.std.specs.Prelude.{All}
use Rattle.std.proofs.lemmas.List.Elements.{All-append}
use Rattle.dn_seal.specs.Said.{IsUnder}
use Rattle.dn_payloads.specs.Payloads.{IsContent}
use Rattle.dn_state.specs.Delivering.{client_said}
use Rattle.dn_state.proofs.PuttingLemmas.{by_result}
use Rattle.dn_state.proofs.DeliverLemmas.{client_under}
use Rattle.dn_state.proofs.delivering.hear.Goals as goal

pub invariant_of-state-in-Some : goal.invariant_of-state-in-Some
invariant_of-state-in-Some c =
    let inside = c.state.inside in
    let roster = inside.payloads.roster in
    let found = c.in-Some.ensures in
    let content = c.in-Some.content.now in
    let more = client_under roster found.0.bytes content (subst (IsContent roster found.0.bytes) found.2 found.3) in
    record {
      of_group = c.state.invariant.of_group;
      said = by_result c.hear_client.result (All (IsUnder roster)) c.hear_client.new.heard.items _ inside.heard.items c.hear_client.ensures.heard c.hear_client.ensures.same
          (All-append (IsUnder roster) inside.heard.items (client_said content) c.state.invariant.said more) c.state.invariant.said;
    }
