use Rattle.std.proofs.Common.{◌≡◌, sym, ap, ◌∙◌}
use Rattle.std.proofs.lemmas.Bool.{false≢true}
use Rattle.std.proofs.lemmas.Option.{same_Some}
use Rattle.dn_cert.proofs.ChainLemmas.{one_body}
use Rattle.dn_record_types.specs.declared.body.Body.{Body}
use Rattle.dn_server.specs.declared.past.Past.{Past}
use Rattle.dn_openings.proofs.accusing.signed_body.Goals as goal

pub returns-else-equals-clause-none : goal.returns-else-equals-clause-none
returns-else-equals-clause-none c = λ nothing b past signed.
    let here : Body = c.in_ok-body.body.now in
    let kept : Past = c.in_ok-past.past.now in
    let same : b ≡ here =
    one_body c.args.parts.now.chain c.in_ok-body.ensures.chain b here signed.held c.in_ok-body.ensures.body.0
    (ap (λ r. r.0) (signed.round ∙ sym c.in_ok-body.ensures.body.1)) in
    let one : past ≡ kept = same_Some past kept (sym signed.kept ∙ c.in_ok-past.ensures) in
    false≢true (sym c.if-equals.false ∙ c.equals.ensures.1 (ap (λ p. p.body) (sym one) ∙ signed.of_body ∙ same))
