use Rattle.std.proofs.Common.{◌∙◌, ap, sym}
use Rattle.std.specs.Prelude.{Some, ◌==◌}
use Rattle.std.proofs.lemmas.Bool.{eq-eqb}
use Rattle.dn_server.specs.declared.past.Past.{Past}
use Rattle.dn_server.proofs.FindLemmas.{find_first, find_none-more}
use Rattle.dn_server.proofs.MemberLemmas.{differs}
use Rattle.dn_server.proofs.past.find.Goals as goal

pub returns-then-past-r : goal.returns-then-past-r
returns-then-past-r c =
    let r = c.args.r.0 in
    find_first (λ (p : Past). p.body.r.0 == r) c.args.pasts.now c.loop-past.past-index c.past-item.result c.loop-past-test.true c.loop-past.invariant
    (ap (λ (p : Past). p.body.r.0 == r) (sym c.past-item.is) ∙ eq-eqb c.past-item.result.body.r.0 r c.if-past-r.true)
    ∙ ap Some (sym c.past-item.is)

pub loop-past-preserved : goal.loop-past-preserved
loop-past-preserved c =
    let r = c.args.r.0 in
    find_none-more (λ (p : Past). p.body.r.0 == r) c.args.pasts.now c.loop-past.past-index c.past-item.result c.loop-past-test.true c.loop-past.invariant
    (ap (λ (p : Past). p.body.r.0 == r) (sym c.past-item.is) ∙ differs c.past-item.result.body.r.0 r c.if-past-r.false)
