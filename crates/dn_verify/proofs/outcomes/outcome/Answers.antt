use Rattle.std.proofs.lemmas.Result.{IfOk-weaker}
use Rattle.std.proofs.Common.{sym, subst}
use Rattle.std.specs.Prelude.{IfNone, IfOk, drop}
use Rattle.dn_report.specs.declared.line.ReportLine.TheVariants as forms
use Rattle.dn_report.specs.declared.outcome.Outcome.{Outcome}
use Rattle.dn_verify.specs.Known.{Adds}
use Rattle.dn_verify.specs.Kept.{course_of, known_of}
use Rattle.dn_verify.proofs.JudgedLemmas.{judged_post}
use Rattle.dn_verify.proofs.outcomes.outcome.Goals as goal

pub returns-in-Post-clause-rule : goal.returns-in-Post-clause-rule
returns-in-Post-clause-rule c = λ report are corrupt from.
    let course = course_of c.args.course.now in
    IfOk-weaker c.post.result _ _
    (λ rule u. judged_post report course (drop c.args.next c.args.lines.now) c.args.outcome.now c.in-Post.payload c.in-Post.by _ rule c.in-Post.is u)
    (c.post.ensures.rule report are corrupt)

pub returns-in-Post-clause-adds : goal.returns-in-Post-clause-adds
returns-in-Post-clause-adds c = λ report are roster corrupt from.
    let behind = drop c.args.next c.args.lines.now in
    subst (λ (o : Outcome). IfOk c.post.result (λ rule. IfNone rule (Adds report (course_of c.args.course.now) (known_of c.args.fold.now c.args.heard.now.items) (forms.Outcome o) behind
    (known_of c.post.new.fold c.post.new.heard.items)))) (sym c.in-Post.is)
    (c.post.ensures.adds report behind _ are)

pub returns-in_default-clause-adds : goal.returns-in_default-clause-adds
returns-in_default-clause-adds c = λ report are roster corrupt from. c.other_outcome.ensures.adds report c.args.heard.now.items are from
