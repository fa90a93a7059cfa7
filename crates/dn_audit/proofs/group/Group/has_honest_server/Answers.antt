use Rattle.std.proofs.Common.{◌≡◌, sym, subst, ap, ◌∙◌, false}
use Rattle.std.specs.Prelude.{Contains}
use Rattle.dn_audit.specs.Group.{GroupView}
use Rattle.dn_audit.proofs.Groups.{some_honest, honest_some, found, finds}
use Rattle.dn_audit.proofs.group.Group.has_honest_server.Goals as goal

pub returns : goal.returns
returns c =
    let g = c.args.self.now in
    let is : c.deref.result.now ≡ g.servers = c.deref.ensures.value ∙ ap (λ (x : GroupView). x.servers) c.self.view_is in (
      λ h. some_honest g (subst (λ xs. Contains xs false) is (found c.deref.result.now (sym c.contains.ensures.value ∙ h))),
      λ x. c.contains.ensures.value ∙ finds c.deref.result.now (subst (λ xs. Contains xs false) (sym is) (honest_some g x.0 x.1)),
    )
