use Rattle.std.proofs.Common.{rules, ◌≡◌, ◌∙◌, List, [], sym, subst, ap, All, arith}
use Rattle.dn_wire.specs.declared.ids.ClientId.{ClientId}
use Rattle.dn_roster.specs.Roster.{RosterView}
use Rattle.dn_seal.specs.Said.{IsUnder}
use Rattle.dn_flight.specs.Flight.{FlightView}
use Rattle.dn_payloads.specs.Payloads.{PayloadsView}
use Rattle.dn_audit.specs.Group.{GroupView, IsGroupOf}
use Rattle.dn_state.specs.Sound.{AreOfGroup}
use Rattle.dn_state.specs.Beginning.{AreClients, first_servers}
use Rattle.dn_state.proofs.CoreLemmas.{same_flight}
use Rattle.dn_state.proofs.state.State.make.Goals as goal

pub invariant_of-result : goal.invariant_of-result
invariant_of-result c = record {
  of_group = subst (λ r. AreOfGroup r c.in_ok-honest_servers.field-0.items) (search rules) c.in_ok-honest_servers.ensures.group;
  said = subst (λ xs. All (IsUnder c.make-2.result.roster) xs) (sym c.new-2.ensures.items) (λ k d within. absurd (omega (arith, within)));
}

pub returns-clause-begins : goal.returns-clause-begins
returns-clause-begins c =
    let dealt = c.args.dealt.now in
    let spec = dealt.spec in
    let corrupt = c.args.corrupt.now in
    let first : RosterView → PayloadsView = λ r. record { roster = r; items = [] } in
    let payloads : c.make-2.result ≡ first dealt.roster = c.make-2.ensures ∙ ap first c.in_ok-copy.ensures in
    let flight : FlightView = record { msgs = []; next = 0 } in
    record {
      roster_is = ap (λ (p : PayloadsView). p.roster) payloads;
      members =
          subst (λ (m : GroupView). IsGroupOf dealt.owners.items spec.clients spec.servers corrupt m) (sym c.group.view_is)
          (subst (λ (owners : List ClientId). IsGroupOf owners spec.clients spec.servers corrupt c.in_ok-group.group) c.deref.ensures.value c.in_ok-group.ensures);
      clients =
          subst (λ (m : GroupView). AreClients spec dealt.roster m c.in_ok-honest_clients.field-0.items spec.clients) (sym c.group.view_is) c.in_ok-honest_clients.ensures;
      servers = c.in_ok-honest_servers.ensures.first ∙ ap (λ (m : GroupView). first_servers spec dealt.roster c.args.workers m spec.servers) (sym c.group.view_is);
      left = c.in_ok-vec.ensures.items_if_clones_equal (λ y same. same);
      payloads = payloads;
      flight = same_flight flight c.in_ok-make.field-0 c.in_ok-make.ensures.0 c.in_ok-make.ensures.1;
      chain = c.in_ok-make-2.ensures.none;
      told = c.new.ensures.empty;
      heard = c.new-2.ensures.items;
      delivered = c.new-3.ensures.empty;
      accused = c.new-4.ensures.empty;
      auditor = c.in_ok-auditor_of.ensures;
    }
