use Rattle.std.proofs.Common.{length, ap, sym, subst, rules, ◌∙◌}
use Rattle.std.proofs.lemmas.Result.{IfOk-weaker}
use Rattle.std.specs.Prelude.{IfNone, IfOk, drop}
use Rattle.dn_report.specs.declared.line.ReportLine.{ReportLine}
use Rattle.dn_report.specs.declared.line.ReportLine.TheVariants as forms
use Rattle.dn_verify.specs.Judged.{IsMark}
use Rattle.dn_verify.specs.Known.{Adds}
use Rattle.dn_verify.proofs.KnownLemmas.{adds_mark, ok_weaker}
use Rattle.dn_roster.specs.Roster.{RosterView}
use Rattle.dn_verify.specs.Kept.{course_of, known_of}
use Rattle.dn_verify.proofs.JudgedLemmas.{if_none, judged_event}
use Rattle.dn_verify.proofs.report_judging.own_rule.Goals as goal

pub returns-in-Event-clause-rule : goal.returns-in-Event-clause-rule
returns-in-Event-clause-rule c = λ report are roster corrupt from.
    let course = course_of c.args.course.now in
    IfOk-weaker c.event.result _ _
    (λ rule u. judged_event report course (drop c.args.next c.args.lines.now) c.args.line.now c.in-Event.e rule c.in-Event.is u)
    (c.event.ensures.rule report corrupt)

pub returns-in_default : goal.returns-in_default
returns-in_default c = record {
  heard = c.requires.heard;
  rule = λ report are roster corrupt from.
      c.mark_rule.ensures.rule report (course_of c.args.course.now) (drop c.args.next c.args.lines.now) corrupt
      (ap (λ (r : RosterView). length r.servers) roster ∙ sym c.servers.ensures.value);
  adds = λ report are roster corrupt from.
      let mark : IsMark c.args.line.now = search rules in
      if_none _ c.mark_rule.result
      (adds_mark report (course_of c.args.course.now) (known_of c.args.fold.now c.args.heard.now.items) (drop c.args.next c.args.lines.now) c.args.line.now mark);
  goes = if_none _ c.mark_rule.result (c.mark_rule.ensures.goes (drop c.args.next c.args.lines.now));
}

pub returns-in-Event-clause-adds : goal.returns-in-Event-clause-adds
returns-in-Event-clause-adds c = λ report are roster corrupt from.
    let behind = drop c.args.next c.args.lines.now in
    let new = known_of c.event.new.fold c.event.new.heard.items in
    subst (λ (l : ReportLine). IfOk c.event.result (λ rule. IfNone rule (Adds report (course_of c.args.course.now) (known_of c.args.fold.now c.args.heard.now.items) l behind new))) (sym c.in-Event.is)
    (ok_weaker (Adds report (course_of c.args.course.now) (known_of c.args.fold.now c.args.heard.now.items) (forms.Event c.in-Event.e) behind new) c.event.result
    (c.event.ensures.adds report are roster corrupt))

pub returns-in-Outcome-clause-adds : goal.returns-in-Outcome-clause-adds
returns-in-Outcome-clause-adds c = λ report are roster corrupt from.
    let behind = drop c.args.next c.args.lines.now in
    let new = known_of c.outcome.new.fold c.outcome.new.heard.items in
    subst (λ (l : ReportLine). IfOk c.outcome.result (λ rule. IfNone rule (Adds report (course_of c.args.course.now) (known_of c.args.fold.now c.args.heard.now.items) l behind new))) (sym c.in-Outcome.is)
    (c.outcome.ensures.adds report are roster corrupt from)
