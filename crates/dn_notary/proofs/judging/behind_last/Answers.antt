use Rattle.std.proofs.Common.{sym, ◌∙◌}
use Rattle.dn_script.specs.Script.{parts_of}
use Rattle.dn_notary.proofs.PartLemmas.{nothing_behind, something_behind}
use Rattle.dn_notary.proofs.JudgingLemmas.{ends, goes_behind}
use Rattle.dn_notary.proofs.judging.behind_last.Goals as goal

pub returns-then-is_empty : goal.returns-then-is_empty
returns-then-is_empty c = λ key parts has.
    ends key parts (parts_of c.args.after.now) c.args.line c.args.count has (nothing_behind c.args.after.now (sym c.is_empty.ensures ∙ c.if-is_empty.true))

pub returns-else-is_empty : goal.returns-else-is_empty
returns-else-is_empty c = λ key parts has.
    rw c.no_line.ensures
    (goes_behind key parts (parts_of c.args.after.now) c.args.line c.args.count has (something_behind c.args.after.now (sym c.is_empty.ensures ∙ c.if-is_empty.false)))
