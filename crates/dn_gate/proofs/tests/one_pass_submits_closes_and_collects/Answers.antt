use Rattle.std.proofs.Common.{rules, ap, ◌≡◌, ◌∙◌, Some}
use Rattle.dn_gate.proofs.tests.one_pass_submits_closes_and_collects.Goals as goal

pub collect-requires-clause-closing : goal.collect-requires-clause-closing
collect-requires-clause-closing g c =
    let made = rw c.expect-closing.ensures at c.close.ensures.closed in
    let held : c.submit-3.new.pass.closing ≡ Some c.expect-closing.result.count = c.submit-3.ensures.pass.2 ∙ ap (λ p. p.closing) made.2 in
    let kept = rw held at c.close-2.ensures.kept in
    (search rules, kept)
