use Rattle.std.proofs.Common.{true, false, sym, ap, ◌∙◌}
use Rattle.std.proofs.lemmas.List.{append-nil}
use Rattle.dn_runner.proofs.MemberLemmas.{clients_step}
use Rattle.dn_runner.proofs.members.add_clients.Goals as goal
use Rattle.dn_runner.proofs.members.add_clients.Goals.{then-has_client+in_ok-push, else-has_client}

pub loop-i-preserved : goal.loop-i-preserved
loop-i-preserved c =
    let step = clients_step c.args.named.now c.loop-i.i c.args.members.now.items c.loop-i.members.items c.if-has_client.members.items in
    elim c.if-has_client.branch [
      | then-has_client+in_ok-push w ↦
          step true c.loop-i.invariant (sym w.if-has_client.true ∙ c.has_client.ensures) (ap (λ v. v.items) w.members-is ∙ w.in_ok-push.ensures.items)
      | else-has_client w ↦
          step false c.loop-i.invariant (sym w.if-has_client.false ∙ c.has_client.ensures) (ap (λ v. v.items) w.members-is ∙ sym (append-nil c.loop-i.members.items))
    ]
