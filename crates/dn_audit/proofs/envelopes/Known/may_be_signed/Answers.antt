use Rattle.std.proofs.Common.{ℕ, List, subst, ◌∙◌}
use Rattle.std.specs.Prelude.{IfOk, IsTrue, ◌↔◌}
use Rattle.dn_audit.specs.Auditor.{MayStand}
use Rattle.dn_audit.proofs.envelopes.Known.may_be_signed.Goals as goal

pub returns : goal.returns
returns c =
    let k = c.args.self.now in
    subst (λ (x : List ℕ). IfOk c.may_stand.result (λ b. IsTrue b ↔ MayStand k.roster.now k.group.now k.signings.now c.args.who x c.args.signature.now))
    (c.deref.ensures.value ∙ c.in_ok-statement.ensures) c.may_stand.ensures
