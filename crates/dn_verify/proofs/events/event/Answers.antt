use Rattle.std.proofs.Common.{◌≡◌, List, ap, sym, subst, rules}
use Rattle.std.specs.Prelude.{OnOk, drop}
use Rattle.dn_seal.specs.Said.{SaidView}
use Rattle.dn_report.specs.declared.line.EventLine.{EventLine}
use Rattle.dn_report.specs.declared.line.EventLine.TheVariants as events
use Rattle.dn_report.specs.declared.line.ReportLine.TheVariants as forms
use Rattle.dn_verify.specs.Judged.{IsPlainEvent}
use Rattle.dn_verify.specs.Kept.{course_of, known_of}
use Rattle.dn_verify.specs.Known.{Adds}
use Rattle.dn_verify.proofs.KnownLemmas.{adds_event, adds_inject, adds_lose}
use Rattle.dn_verify.proofs.events.event.Goals as goal

pub returns-in-Deliver-clause-adds : goal.returns-in-Deliver-clause-adds
returns-in-Deliver-clause-adds c = λ report are roster corrupt.
    subst (λ (e : EventLine). OnOk c.deliver.result (Adds report (course_of c.args.course.now) (known_of c.args.fold.now c.args.heard.now.items) (forms.Event e) (drop c.args.next c.args.lines.now)
    (known_of c.deliver.new.fold c.deliver.new.heard.items))) (sym c.in-Deliver.is)
    (c.deliver.ensures.adds report are roster corrupt)

pub returns-in_ok-judge-in-Judge-clause-adds : goal.returns-in_ok-judge-in-Judge-clause-adds
returns-in_ok-judge-in-Judge-clause-adds c = λ report are roster corrupt.
    subst (λ (e : EventLine). Adds report (course_of c.args.course.now) (known_of c.args.fold.now c.args.heard.now.items) (forms.Event e) (drop c.args.next c.args.lines.now)
    (known_of c.judge.new.fold c.args.heard.now.items)) (sym c.in-Judge.is)
    (subst (λ (said : List SaidView). Adds report (course_of c.args.course.now) (known_of c.args.fold.now said) (forms.Event (events.Judge c.in-Judge.r c.in-Judge.k))
    (drop c.args.next c.args.lines.now) (known_of c.judge.new.fold said)) c.deref.ensures.value
    (c.in_ok-judge-in-Judge.ensures report (course_of c.args.course.now) (drop c.args.next c.args.lines.now) roster))

pub returns-in-Inject-clause-adds : goal.returns-in-Inject-clause-adds
returns-in-Inject-clause-adds c = λ report are roster corrupt.
    let known = known_of c.args.fold.now c.args.heard.now.items in
    subst (λ (e : EventLine). Adds report (course_of c.args.course.now) known (forms.Event e) (drop c.args.next c.args.lines.now) known) (sym c.in-Inject.is)
    (adds_inject report (course_of c.args.course.now) known (drop c.args.next c.args.lines.now) _ _ _)

pub returns-in-Lose-clause-adds : goal.returns-in-Lose-clause-adds
returns-in-Lose-clause-adds c = λ report are roster corrupt.
    let known = known_of c.args.fold.now c.args.heard.now.items in
    subst (λ (e : EventLine). Adds report (course_of c.args.course.now) known (forms.Event e) (drop c.args.next c.args.lines.now) known) (sym c.in-Lose.is)
    (adds_lose report (course_of c.args.course.now) known (drop c.args.next c.args.lines.now) _)

pub returns-in_default-clause-adds : goal.returns-in_default-clause-adds
returns-in_default-clause-adds c = λ report are roster corrupt.
    let known = known_of c.args.fold.now c.args.heard.now.items in
    let plain : IsPlainEvent c.args.event.now = search rules in
    adds_event report (course_of c.args.course.now) known (drop c.args.next c.args.lines.now) c.args.event.now plain
