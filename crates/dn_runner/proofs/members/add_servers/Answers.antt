use Rattle.std.proofs.Common.{true, false, sym, ap, ◌∙◌}
use Rattle.std.proofs.lemmas.List.{append-nil}
use Rattle.dn_runner.proofs.MemberLemmas.{servers_step}
use Rattle.dn_runner.proofs.members.add_servers.Goals as goal
use Rattle.dn_runner.proofs.members.add_servers.Goals.{then-has_server+in_ok-push, else-has_server}

pub loop-j-preserved : goal.loop-j-preserved
loop-j-preserved c =
    let step = servers_step c.args.named.now c.loop-j.j c.args.members.now.items c.loop-j.members.items c.if-has_server.members.items in
    elim c.if-has_server.branch [
      | then-has_server+in_ok-push w ↦
          step true c.loop-j.invariant (sym w.if-has_server.true ∙ c.has_server.ensures) (ap (λ v. v.items) w.members-is ∙ w.in_ok-push.ensures.items)
      | else-has_server w ↦
          step false c.loop-j.invariant (sym w.if-has_server.false ∙ c.has_server.ensures) (ap (λ v. v.items) w.members-is ∙ sym (append-nil c.loop-j.members.items))
    ]
