use Rattle.std.proofs.Common.{rules, arith, ap, sym, ◌∙◌}
use Rattle.dn_gate.proofs.Keeps.{claims_word}
use Rattle.dn_gate.proofs.steps.claim.Goals as goal

pub fetch_or-requires : goal.fetch_or-requires
fetch_or-requires g c =
    let v₁ = ap (λ p. p.claim) c.pass.view_is ∙ c.requires.ready.0 in
    let v₂ = ap (λ p. p.unmarked) c.pass.view_is ∙ c.requires.ready.1 in
    (search rules, search rules, claims_word _ _ _ _ _ _ _ _ c.pass.invariant.live (omega (arith, ap (λ q. q.clients) c.gate.view_is, c.requires.gate.1)) v₁ (c.pass.invariant.empty (v₁, v₂)))

pub returns-clause-empty : goal.returns-clause-empty
returns-clause-empty g c =
    let v₁ = ap (λ p. p.claim) c.pass.view_is ∙ c.requires.ready.0 in
    let v₂ = ap (λ p. p.unmarked) c.pass.view_is ∙ c.requires.ready.1 in
    sym (ap (λ p. p.held) c.pass.view_is) ∙ c.pass.invariant.empty (v₁, v₂)
