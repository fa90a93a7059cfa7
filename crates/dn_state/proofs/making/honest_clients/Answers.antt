use Rattle.std.proofs.Common.{◌+◌, sym, subst}
use Rattle.dn_state.specs.Beginning.{AreClients}
use Rattle.dn_state.proofs.BeginLemmas.{clients_more}
use Rattle.dn_state.proofs.making.honest_clients.Goals as goal

pub loop-i-preserved : goal.loop-i-preserved
loop-i-preserved c =
    let dealt = c.args.dealt.now in
    subst (λ xs. AreClients dealt.spec dealt.roster c.args.group.now xs (c.loop-i.i + 1)) (sym c.in_ok-push.ensures.items)
    (clients_more dealt.spec dealt.roster c.args.group.now c.loop-i.clients.items c.in_ok-honest_client.field-0 c.loop-i.i c.loop-i.invariant c.in_ok-honest_client.ensures)
