use Rattle.std.proofs.Common.{sym, subst, ◌∙◌, ℕ}
use Rattle.std.specs.Prelude.{Option}
use Rattle.std.proofs.lemmas.Bool.{false≢true}
use Rattle.dn_verify.specs.Judged.{IsLeastOf}
use Rattle.dn_verify.proofs.DueLemmas.{judged_same, judged_between, least_of}
use Rattle.dn_verify.proofs.due.broken_due.Goals as goal

pub returns-then-is_as_due : goal.returns-then-is_as_due
returns-then-is_as_due c = judged_same c.args.scene _ _ (c.is_as_due.ensures.yes c.if-is_as_due.true)

pub returns : goal.returns
returns c =
    judged_between c.args.scene _ _ (λ o e f kind. false≢true (sym c.if-is_as_due.false ∙ c.is_as_due.ensures.no o e f kind)) c.least.result
    (least_of _ _ c.rule_in.result c.rule_in-2.result c.least.result c.rule_in.ensures c.rule_in-2.ensures c.least.ensures)
