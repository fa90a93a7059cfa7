use Rattle.std.proofs.Common.{sym, subst, ◌∙◌}
use Rattle.std.specs.Prelude.{Contains}
use Rattle.dn_audit.proofs.Lists.{held_to, held_from}
use Rattle.dn_audit.proofs.signings.Signings.has.Goals as goal

pub returns : goal.returns
returns c =
    let ks = c.self.inside.signed.keys in
    let bytes = c.args.bytes.now.items in (
      λ h. subst (λ xs. Contains xs bytes) c.self.view_is (held_to (λ k. k.items) bytes ks (sym c.contains.ensures ∙ h)),
      λ h. c.contains.ensures ∙ held_from (λ k. k.items) bytes ks (subst (λ xs. Contains xs bytes) (sym c.self.view_is) h),
    )
