use Rattle.std.proofs.Common.{◌++◌, ◌∷◌, [], ap, ◌∙◌}
use Rattle.dn_crew.proofs.race.close_gate.Goals as goal

pub returns-in-Err-clause-closed : goal.returns-in-Err-clause-closed
returns-in-Err-clause-closed g c =
    let fresh = c.requires.fresh.1.nothing in
    let e = c.in-Err.ensures.already.1 in
    (ap (λ p. p.closing) e ∙ fresh.3, (c.in-Err.field-0.seen, ap (λ p. p.refused) e ∙ ap (λ l. l ++ c.in-Err.field-0.seen ∷ []) fresh.8))
