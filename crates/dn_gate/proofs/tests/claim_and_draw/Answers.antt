use Rattle.std.proofs.Common.{ap, refl, ◌∙◌}
use Rattle.dn_gate.proofs.tests.claim_and_draw.Goals as goal

pub returns-in-Included : goal.returns-in-Included
returns-in-Included c = λ _.
    let e = (c.in-Included.ensures.included c.in-Included.place refl).2 in
    let d = c.if-not-claim.ensures.claimed in
    (ap (λ p. p.gate) e ∙ ap (λ p. p.gate) d ∙ c.requires.1.0, ap (λ p. p.unmarked) e, ap (λ p. p.held) e ∙ ap (λ p. p.held) d)
