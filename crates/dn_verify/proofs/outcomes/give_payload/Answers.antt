use Rattle.std.proofs.Common.{sym, subst, refl, ◌∙◌}
use Rattle.std.specs.Prelude.{Option, OnOk}
use Rattle.dn_record_types.specs.declared.body.Body.{Body}
use Rattle.dn_verify.specs.Known.{IsGiven}
use Rattle.dn_verify.proofs.ContentLemmas.{body_is}
use Rattle.dn_verify.proofs.outcomes.give_payload.Goals as goal

pub returns-in-Some : goal.returns-in-Some
returns-in-Some c = λ report are.
    let is = body_is report c.args.contents.now c.args.payload are ∙ (rw c.content_at.ensures at c.in-Some.ensures) in
    subst (λ (o : Option Body). OnOk c.give.result (IsGiven c.args.chain.now o c.give.new.chain)) (sym is) c.give.ensures

pub returns-in-None : goal.returns-in-None
returns-in-None c = λ report are.
    let is = body_is report c.args.contents.now c.args.payload are ∙ (rw c.content_at.ensures at c.in-None.ensures) in
    subst (λ (o : Option Body). IsGiven c.args.chain.now o c.args.chain.now) (sym is) refl
