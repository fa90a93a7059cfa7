use Rattle.std.proofs.Common.{◌∙◌, ◌∷◌, [], ◌++◌, ap, sym}
use Rattle.dn_server.specs.Server.{server_member}
use Rattle.dn_server.proofs.MemberLemmas.{others_skip, others_take}
use Rattle.dn_server.proofs.saying.other_servers.Goals as goal
use Rattle.dn_server.proofs.saying.other_servers.Goals.{then-j-own+in_ok-push, else-j-own}

pub loop-j-preserved : goal.loop-j-preserved
loop-j-preserved c =
    let own = c.args.own.0 in
    let j = c.loop-j.j in
    elim c.if-j-own.branch [
      | then-j-own+in_ok-push w ↦
          ap (λ v. v.items) w.members-is ∙ w.in_ok-push.ensures.items ∙ ap (λ l. l ++ server_member j ∷ []) c.loop-j.invariant ∙ sym (others_take own j w.if-j-own.true)
      | else-j-own w ↦ ap (λ v. v.items) w.members-is ∙ c.loop-j.invariant ∙ sym (others_skip own j w.if-j-own.false)
    ]
