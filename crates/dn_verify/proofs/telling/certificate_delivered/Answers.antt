use Rattle.std.proofs.Common.{◌≡◌, Bool, Some, None, ap, rules, sym, subst, ◌∙◌}
use Rattle.std.specs.Prelude.{Option, MatchOption, option_and_then, if◌then◌else◌}
use Rattle.dn_record_types.specs.declared.body.Body.{Body}
use Rattle.dn_verify.specs.declared.scene.Scene.{Scene}
use Rattle.dn_verify.specs.Known.{certificate_in, delivered_to, of_round}
use Rattle.dn_verify.proofs.ContentLemmas.{body_is}
use Rattle.dn_verify.proofs.KeyLemmas.{other_member, same_member}
use Rattle.dn_wire.specs.declared.ids.Member.{Member}
use Rattle.dn_verify.specs.declared.scene.Scene.TheVariants.{Delivery}
use Rattle.dn_verify.proofs.TellingLemmas.{held_by}
use Rattle.dn_verify.proofs.telling.certificate_delivered.Goals as goal

pub returns-clause-rule : goal.returns-clause-rule
returns-clause-rule c = λ report course are at.
    let same : c.in-Delivery.to ≡ c.args.member = search rules in
    held_by report c.args.contents.now are course c.args.r c.args.member c.in-Delivery.payload c.certificate_for.result
    (at ∙ c.in-Delivery.is ∙ ap (λ (m : Member). Delivery m c.in-Delivery.payload) same)
    (rw c.content_at.ensures at c.certificate_for.ensures.says)

pub returns-then-ne-clause-body : goal.returns-then-ne-clause-body
returns-then-ne-clause-body c = λ report are.
    let other : c.in-Delivery.to ≡ c.args.member → ⊥ = search rules in
    ap (λ (s : Scene). certificate_in report c.args.r (delivered_to s c.args.member)) c.in-Delivery.is
    ∙ ap (λ (b : Bool). certificate_in report c.args.r (if b then Some c.in-Delivery.payload else None)) (other_member c.in-Delivery.to c.args.member other)

pub returns-clause-body : goal.returns-clause-body
returns-clause-body c = λ report are.
    let same : c.in-Delivery.to ≡ c.args.member = search rules in
    let e = ap (λ (s : Scene). certificate_in report c.args.r (delivered_to s c.args.member)) c.in-Delivery.is
    ∙ ap (λ (b : Bool). certificate_in report c.args.r (if b then Some c.in-Delivery.payload else None)) (same_member c.in-Delivery.to c.args.member same)
    ∙ ap (option_and_then (of_round c.args.r)) (body_is report c.args.contents.now c.in-Delivery.payload are) in
    subst (λ (b : Option Body). MatchOption c.certificate_for.result (b ≡ None) (λ x. b ≡ Some x.now.body)) (sym e)
    (rw c.content_at.ensures at c.certificate_for.ensures.body)
