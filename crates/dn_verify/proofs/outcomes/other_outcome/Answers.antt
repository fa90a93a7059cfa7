use Rattle.std.proofs.Common.{refl, rules, sym, subst}
use Rattle.std.proofs.lemmas.Result.{IfOk-weaker}
use Rattle.std.specs.Prelude.{IfNone, IfOk, drop}
use Rattle.dn_report.specs.declared.line.ReportLine.TheVariants as forms
use Rattle.dn_report.specs.declared.outcome.Outcome.{Outcome}
use Rattle.dn_verify.specs.Judged.{IsPlainOutcome}
use Rattle.dn_verify.specs.Known.{Adds}
use Rattle.dn_verify.proofs.KnownLemmas.{adds_outcome, ok_none}
use Rattle.dn_verify.specs.Kept.{course_of, known_of}
use Rattle.dn_verify.proofs.JudgedLemmas.{judged_held}
use Rattle.dn_verify.proofs.outcomes.other_outcome.Goals as goal

pub returns-in-Held-clause-rule : goal.returns-in-Held-clause-rule
returns-in-Held-clause-rule c = λ report are from.
    let course = course_of c.args.course.now in
    IfOk-weaker c.held.result _ _
    (λ rule u. judged_held report course (drop c.args.next c.args.lines.now) c.args.outcome.now c.in-Held.member c.in-Held.r rule c.in-Held.is u)
    (c.held.ensures.rule report course are refl)

pub returns-in-Sent-clause-adds : goal.returns-in-Sent-clause-adds
returns-in-Sent-clause-adds c = λ report said are from.
    let behind = drop c.args.next c.args.lines.now in
    subst (λ (o : Outcome). IfOk c.sent.result (λ rule. IfNone rule (Adds report (course_of c.args.course.now) (known_of c.args.fold.now said) (forms.Outcome o) behind (known_of c.sent.new.fold said))))
    (sym c.in-Sent.is) (c.sent.ensures.adds report behind said are)

pub returns-in-Full-clause-adds : goal.returns-in-Full-clause-adds
returns-in-Full-clause-adds c = λ report said are from.
    let behind = drop c.args.next c.args.lines.now in
    subst (λ (o : Outcome). IfOk c.full.result (λ rule. IfNone rule (Adds report (course_of c.args.course.now) (known_of c.args.fold.now said) (forms.Outcome o) behind (known_of c.full.new.fold said))))
    (sym c.in-Full.is) (c.full.ensures.adds report behind said _ are)

pub returns-in-Certified-clause-adds : goal.returns-in-Certified-clause-adds
returns-in-Certified-clause-adds c = λ report said are from.
    let behind = drop c.args.next c.args.lines.now in
    subst (λ (o : Outcome). IfOk c.certified.result (λ rule. IfNone rule (Adds report (course_of c.args.course.now) (known_of c.args.fold.now said) (forms.Outcome o) behind (known_of c.certified.new.fold said))))
    (sym c.in-Certified.is) (c.certified.ensures.adds report behind said are from)

pub returns-in-Held-clause-adds : goal.returns-in-Held-clause-adds
returns-in-Held-clause-adds c = λ report said are from.
    let behind = drop c.args.next c.args.lines.now in
    subst (λ (o : Outcome). IfOk c.held.result (λ rule. IfNone rule (Adds report (course_of c.args.course.now) (known_of c.args.fold.now said) (forms.Outcome o) behind (known_of c.held.new.fold said))))
    (sym c.in-Held.is) (c.held.ensures.adds report (course_of c.args.course.now) behind said are refl)

pub returns-in-Told-clause-adds : goal.returns-in-Told-clause-adds
returns-in-Told-clause-adds c = λ report said are from.
    let plain : IsPlainOutcome c.args.outcome.now = search rules in
    ok_none _ c.told.result (adds_outcome report (course_of c.args.course.now) (known_of c.args.fold.now said) (drop c.args.next c.args.lines.now) c.args.outcome.now plain)

pub returns-in-Closed-clause-adds : goal.returns-in-Closed-clause-adds
returns-in-Closed-clause-adds c = λ report said are from.
    let plain : IsPlainOutcome c.args.outcome.now = search rules in
    (adds_outcome report (course_of c.args.course.now) (known_of c.args.fold.now said) (drop c.args.next c.args.lines.now) c.args.outcome.now plain)

pub returns-in-Listed-clause-adds : goal.returns-in-Listed-clause-adds
returns-in-Listed-clause-adds c = λ report said are from.
    let plain : IsPlainOutcome c.args.outcome.now = search rules in
    (adds_outcome report (course_of c.args.course.now) (known_of c.args.fold.now said) (drop c.args.next c.args.lines.now) c.args.outcome.now plain)

pub returns-in_default-clause-adds : goal.returns-in_default-clause-adds
returns-in_default-clause-adds c = λ report said are from.
    let plain : IsPlainOutcome c.args.outcome.now = search rules in
    (adds_outcome report (course_of c.args.course.now) (known_of c.args.fold.now said) (drop c.args.next c.args.lines.now) c.args.outcome.now plain)
