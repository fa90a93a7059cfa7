use Rattle.std.proofs.Common.{Some, refl, ap, subst, ◌∙◌}
use Rattle.dn_record_types.specs.declared.body.Body.{Body}
use Rattle.dn_cert.specs.Chain.{IsHoldRefused}
use Rattle.dn_cert.proofs.ChainLemmas.{follows_so}
use Rattle.dn_state.specs.Putting.Follows.{stays}
use Rattle.dn_state.proofs.putting.follow.Goals as goal

pub returns-in-Some : goal.returns-in-Some
returns-in-Some c =
    let chain = c.args.chain.now in
    let b = c.args.certificate.now.body in
    let refused = subst (λ (x : Body). IsHoldRefused chain x c.in-Some.field-0) c.body.ensures.value c.in-Some.ensures.refused in
    stays (λ can. c.refusal.ensures.memory (c.in-Some.is ∙ ap Some (follows_so chain b c.in-Some.field-0 c.refusal.ensures.chain can refused))) refl
