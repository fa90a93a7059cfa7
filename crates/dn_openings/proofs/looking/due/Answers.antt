use Rattle.std.proofs.Common.{◌≡◌, [], true, false, length, sym, ap, ◌∙◌, subst, arith}
use Rattle.std.specs.Prelude.{◌==◌}
use Rattle.dn_trace.specs.Trial.{Trial}
use Rattle.dn_openings.proofs.DueLemmas.{all_due, nobody_due}
use Rattle.dn_openings.specs.Challenging.{AreDue}
use Rattle.dn_openings.proofs.looking.due.Goals as goal

pub returns-then-is_empty : goal.returns-then-is_empty
returns-then-is_empty g c =
    let trial : Trial = record { roster = c.args.roster.now; body = c.args.body.now; layout = c.args.layout.now; k = c.args.place.k; given = c.args.given.now } in
    let limits = c.servers-servers.ensures.limits.servers in
    let none : (length c.in_ok-verdict.verdict.blamed == 0) ≡ true = sym (ap (λ l. length l == 0) c.get.ensures) ∙ sym c.is_empty.ensures ∙ c.if-is_empty.true in
    all_due c.args.place trial c.requires.open c.in_ok-verdict.verdict.blamed c.in_ok-verdict.verdict.silent c.in_ok-verdict.ensures.verdict none c.requires.complete (omega (arith, limits.0))

pub returns-else-is_empty : goal.returns-else-is_empty
returns-else-is_empty g c =
    let trial : Trial = record { roster = c.args.roster.now; body = c.args.body.now; layout = c.args.layout.now; k = c.args.place.k; given = c.args.given.now } in
    let some : (length c.in_ok-verdict.verdict.blamed == 0) ≡ false = sym (ap (λ l. length l == 0) c.get.ensures) ∙ sym c.is_empty.ensures ∙ c.if-is_empty.false in
    let nobody : AreDue trial [] = nobody_due c.args.place trial c.requires.open c.in_ok-verdict.verdict.blamed c.in_ok-verdict.verdict.silent c.in_ok-verdict.ensures.verdict some in
    subst (AreDue trial) (sym (c.of.ensures ∙ c.new.ensures.items)) nobody
