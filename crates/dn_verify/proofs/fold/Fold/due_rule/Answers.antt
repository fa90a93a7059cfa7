use Rattle.dn_verify.proofs.DueLemmas.{judged_due}
use Rattle.dn_verify.proofs.fold.Fold.due_rule.Goals as goal

pub returns-clause-rule : goal.returns-clause-rule
returns-clause-rule c =
    judged_due c.args.scene _ _ c.args.self.now.due.items c.args.line.now c.broken_due-rule.result c.outcome_of.ensures c.first_of.ensures c.broken_due-rule.ensures
