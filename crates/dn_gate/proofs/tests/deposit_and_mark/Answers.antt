use Rattle.std.proofs.Common.{ap, ◌∙◌}
use Rattle.dn_gate.proofs.tests.deposit_and_mark.Goals as goal

pub mark-requires-clause-deposited : goal.mark-requires-clause-deposited
mark-requires-clause-deposited c = (ap (λ p. p.unmarked) c.deposit.ensures.deposited ∙ c.requires.2, (c.args.value, ap (λ p. p.held) c.deposit.ensures.deposited))
