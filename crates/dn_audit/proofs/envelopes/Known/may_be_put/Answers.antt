use Rattle.std.proofs.Common.{◌≡◌, ℕ, List, Option, Some, None, length, refl, sym, subst, ap, ◌∙◌}
use Rattle.std.specs.Prelude.{IfSome}
use Rattle.std.proofs.lemmas.Map.Views.{exact_unsigned_eq}
use Rattle.dn_audit.specs.Auditor.{SealsAreTheirs}
use Rattle.dn_audit.specs.Signatures.{IsEnvelopeOf}
use Rattle.dn_audit.specs.Envelopes.{carried_of, IsEnvelopeIn}
use Rattle.dn_audit.proofs.Loops.{both_ways, refuted, granted}
use Rattle.dn_audit.proofs.Sealed.{no_seal, to_parts, from_parts, shorter, never_empty}
use Rattle.dn_audit.proofs.envelopes.Known.may_be_put.Goals as goal

pub returns-then-not-branch : goal.returns-then-not-branch
returns-then-not-branch c =
    let k = c.args.self.now in
    let at = subst (λ x. IsEnvelopeOf x c.in-Some.envelope) c.get-in-loop-rest.ensures (subst (IsEnvelopeIn c.get-in-loop-rest.result.now) c.in-Some.is c.in_ok-envelope.ensures) in
    both_ways (λ all. refuted c.in_ok-may_be_sealed.field-0 c.in_ok-may_be_sealed.ensures c.if-not-branch.true
    (to_parts k.roster.now k.group.now k.signings.now c.loop-rest.rest c.in-Some.envelope at (c.loop-rest.invariant.1 all)).0)

pub returns-in-None : goal.returns-in-None
returns-in-None c =
    let k = c.args.self.now in
    let never = subst (λ x. IsEnvelopeIn x None) c.get-in-loop-rest.ensures (subst (IsEnvelopeIn c.get-in-loop-rest.result.now) c.in-None.is c.in_ok-envelope.ensures) in
    (λ h. c.loop-rest.invariant.0 (no_seal k.roster.now k.group.now k.signings.now c.loop-rest.rest never), λ h. refl)

pub returns-in-None-carried_in : goal.returns-in-None-carried_in
returns-in-None-carried_in c =
    let k = c.args.self.now in
    let e = c.in-Some.envelope in
    let at = subst (λ x. IsEnvelopeOf x e) c.get-in-loop-rest.ensures (subst (IsEnvelopeIn c.get-in-loop-rest.result.now) c.in-Some.is c.in_ok-envelope.ensures) in
    let none : carried_of e.statement ≡ None = sym c.carried_in.ensures ∙ c.in-None-carried_in.is in (
      λ h. c.loop-rest.invariant.0 (from_parts k.roster.now k.group.now k.signings.now c.loop-rest.rest e at (
        granted c.in_ok-may_be_sealed.field-0 c.in_ok-may_be_sealed.ensures c.if-not-branch.false,
        subst (λ (o : Option (List ℕ)). IfSome o (SealsAreTheirs k.roster.now k.group.now k.signings.now)) (sym none) tt,
      )),
      λ h. refl,
    )

pub loop-rest-smaller : goal.loop-rest-smaller
loop-rest-smaller c =
    let e = c.in-Some.envelope in
    let at = subst (λ x. IsEnvelopeOf x e) c.get-in-loop-rest.ensures (subst (IsEnvelopeIn c.get-in-loop-rest.result.now) c.in-Some.is c.in_ok-envelope.ensures) in
    shorter c.loop-rest.rest e c.in-Some-carried_in.carried at (sym c.carried_in.ensures ∙ c.in-Some-carried_in.is)

pub loop-rest-preserved : goal.loop-rest-preserved
loop-rest-preserved c =
    let k = c.args.self.now in
    let e = c.in-Some.envelope in
    let at = subst (λ x. IsEnvelopeOf x e) c.get-in-loop-rest.ensures (subst (IsEnvelopeIn c.get-in-loop-rest.result.now) c.in-Some.is c.in_ok-envelope.ensures) in
    let some : carried_of e.statement ≡ Some c.in-Some-carried_in.carried = sym c.carried_in.ensures ∙ c.in-Some-carried_in.is in (
      λ h. c.loop-rest.invariant.0 (from_parts k.roster.now k.group.now k.signings.now c.loop-rest.rest e at (
        granted c.in_ok-may_be_sealed.field-0 c.in_ok-may_be_sealed.ensures c.if-not-branch.false,
        subst (λ (o : Option (List ℕ)). IfSome o (SealsAreTheirs k.roster.now k.group.now k.signings.now)) (sym some) h,
      )),
      λ h. subst (λ (o : Option (List ℕ)). IfSome o (SealsAreTheirs k.roster.now k.group.now k.signings.now)) some
          (to_parts k.roster.now k.group.now k.signings.now c.loop-rest.rest e at (c.loop-rest.invariant.1 h)).1,
    )

pub returns : goal.returns
returns c =
    let k = c.args.self.now in
    let zero = exact_unsigned_eq (length c.get.result.now) 0 (sym c.is_empty.ensures ∙ c.loop-rest-test.false) in
    (λ h. c.loop-rest.invariant.0 (no_seal k.roster.now k.group.now k.signings.now c.loop-rest.rest (never_empty c.loop-rest.rest (sym (ap length c.get.ensures) ∙ zero))), λ h. refl)
