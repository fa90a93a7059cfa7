use Rattle.std.proofs.Common.{sym, subst, All}
use Rattle.std.proofs.lemmas.List.Elements.{All-push}
use Rattle.dn_wire.specs.declared.ids.Member.TheVariants as members
use Rattle.dn_seal.proofs.ListLemmas.{one_more}
use Rattle.dn_audit.specs.Group.{is_corrupt}
use Rattle.dn_state.specs.Sound.{IsOfRoster}
use Rattle.dn_state.specs.Beginning.{server_place}
use Rattle.dn_state.proofs.making.honest_servers.Goals as goal

pub loop-j-preserved : goal.loop-j-preserved
loop-j-preserved c =
    let dealt = c.args.dealt.now in
    record {
      of_group =
          subst (λ xs. All (IsOfRoster dealt.roster) xs) (sym c.in_ok-push.ensures.items)
          (All-push (IsOfRoster dealt.roster) c.loop-j.servers.items c.in_ok-honest_server.field-0 c.loop-j.invariant.of_group c.in_ok-honest_server.ensures.roster);
      first =
          one_more (λ j. server_place dealt.spec dealt.roster c.args.workers j (is_corrupt c.args.group.now (members.Server record { 0 = j }))) c.loop-j.servers.items _ c.loop-j.j
          c.in_ok-honest_server.field-0 c.loop-j.invariant.first c.in_ok-push.ensures.items c.in_ok-honest_server.ensures.place;
    }
