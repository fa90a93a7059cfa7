use Rattle.std.proofs.Common.{◌≡◌, true, false, Err, ap}
use Rattle.dn_script.specs.Script.{parts_of}
use Rattle.dn_notary.proofs.JudgingLemmas.{breaks, goes, neither}
use Rattle.dn_notary.proofs.judging.judge_line.Goals as goal

pub returns-in-Some : goal.returns-in-Some
returns-in-Some c = λ parts has.
    breaks c.args.key.now c.args.text.now parts (parts_of c.args.after.now) c.args.line c.args.count c.in-Ok.signed c.in-Some.rule has
    c.in-Ok.ensures.found.1 c.in-Ok.ensures.found.0 c.in-Some.ensures

pub returns-in-Ok : goal.returns-in-Ok
returns-in-Ok c = λ parts has.
    goes c.args.key.now c.args.text.now parts (parts_of c.args.after.now) c.args.line c.args.count c.in-Ok.signed has
    c.in-Ok.ensures.found.1 c.in-Ok.ensures.found.0 c.in-None.ensures

pub returns-in-Err-Grammar : goal.returns-in-Err-Grammar
returns-in-Err-Grammar c = λ parts has.
    rw c.no_line.ensures
    (neither c.args.key.now c.args.text.now parts (parts_of c.args.after.now) c.args.line c.args.count has
    (λ e. let same : false ≡ true = c.if-is_end.ensures.1 e in cc)
    (c.in-Err-Grammar.ensures.only (ap Err c.in-Err-Grammar.field-0-is)))
