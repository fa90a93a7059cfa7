use Rattle.std.proofs.Common.{◌≡◌, List, ap, sym, subst, ◌∙◌}
use Rattle.std.specs.Prelude.{IsSome, OnOk, Result}
use Rattle.std.proofs.lemmas.List.{get_or_read}
use Rattle.dn_report.specs.declared.line.ReportLine.{ReportLine}
use Rattle.dn_report.specs.declared.line.ReportLine.TheVariants as forms
use Rattle.dn_verify.specs.declared.stop.Stop.{Stop}
use Rattle.dn_verify.specs.Course.{after, after_told, place_after}
use Rattle.dn_verify.specs.Judged.{IsStepped, stopped}
use Rattle.dn_verify.specs.Kept.{course_of, known_of}
use Rattle.dn_verify.specs.Known.{Adds, GoesOn, Known}
use Rattle.dn_verify.specs.Steps.{behind_at, line_at}
use Rattle.dn_verify.proofs.CourseLemmas.{goes_on}
use Rattle.dn_verify.proofs.KnownLemmas.{popped}
use Rattle.dn_verify.proofs.JudgedLemmas.{is_some, none_weaker, on_ok, on_stopped, stepped}
use Rattle.dn_verify.proofs.report_judging.step.Goals as goal

pub returns-clause-heard : goal.returns-clause-heard
returns-clause-heard c = on_ok _ c.stop_at.result c.in_ok-own.ensures.heard

pub returns-clause-rule : goal.returns-clause-rule
returns-clause-rule c = λ report are roster corrupt from.
    let course = course_of c.args.course.now in
    let at = c.args.at in
    let behind = behind_at c.args.lines.now at in
    let line = c.index-lines-at.result in
    let here : line ≡ line_at c.args.lines.now at = get_or_read c.args.lines.now at line c.requires.within c.index-lines-at.is forms.End in
    let known = known_of c.args.fold.now c.args.heard.now.items in
    let placed : IsSome (place_after course.ending line) = is_some (place_after course.ending line) c.in-Some.ending c.in-Some.ensures in
    subst (λ (r : Result (Unit {0}) Stop). IsStepped report course known (line_at c.args.lines.now at) behind at r) (sym c.stop_at.ensures)
    (subst (λ (l : ReportLine). IsStepped report course known l behind at (stopped at c.least.result)) here
    (stepped report course known line behind at c.due_rule-due.result c.in_ok-own.own c.least.result placed c.due_rule-due.ensures.rule
    (c.in_ok-own.ensures.rule report are roster corrupt from) c.least.ensures))

pub returns-clause-goes : goal.returns-clause-goes
returns-clause-goes c =
    let course = course_of c.args.course.now in
    let at = c.args.at in
    let behind = behind_at c.args.lines.now at in
    let line = c.index-lines-at.result in
    let new = course_of c.own_rule.new.course in
    let here : line ≡ line_at c.args.lines.now at = get_or_read c.args.lines.now at line c.requires.within c.index-lines-at.is forms.End in
    subst (λ (r : Result (Unit {0}) Stop). OnOk r (record new { ending = c.in-Some.ending } ≡ after course (line_at c.args.lines.now at) behind)) (sym c.stop_at.ensures)
    (on_stopped (record new { ending = c.in-Some.ending } ≡ after course (line_at c.args.lines.now at) behind) at c.due_rule-due.result c.in_ok-own.own c.least.result c.least.ensures
    (none_weaker (new ≡ after_told line behind course) (record new { ending = c.in-Some.ending } ≡ after course (line_at c.args.lines.now at) behind) c.in_ok-own.own
    (λ is. goes_on course line behind new c.in-Some.ending is c.in-Some.ensures ∙ ap (λ (l : ReportLine). after course l behind) here) c.in_ok-own.ensures.goes))

pub returns-clause-adds : goal.returns-clause-adds
returns-clause-adds c = λ report are roster corrupt from.
    let course = course_of c.args.course.now in
    let at = c.args.at in
    let behind = behind_at c.args.lines.now at in
    let line = c.index-lines-at.result in
    let heard = c.args.heard.now.items in
    let new = known_of c.own_rule.new.fold c.own_rule.new.heard.items in
    let here : line ≡ line_at c.args.lines.now at = get_or_read c.args.lines.now at line c.requires.within c.index-lines-at.is forms.End in
    let known = popped c.args.fold.now c.due_rule-due.new.self heard c.due_rule-due.ensures.rest c.due_rule-due.ensures.due in
    subst (λ (r : Result (Unit {0}) Stop). OnOk r (GoesOn report course (known_of c.args.fold.now heard) (line_at c.args.lines.now at) behind new)) (sym c.stop_at.ensures)
    (on_stopped (GoesOn report course (known_of c.args.fold.now heard) (line_at c.args.lines.now at) behind new) at c.due_rule-due.result c.in_ok-own.own c.least.result c.least.ensures
    (none_weaker (Adds report course (known_of c.due_rule-due.new.self heard) line behind new) (GoesOn report course (known_of c.args.fold.now heard) (line_at c.args.lines.now at) behind new)
    c.in_ok-own.own
    (λ adds. subst (λ (l : ReportLine). GoesOn report course (known_of c.args.fold.now heard) l behind new) here
    (subst (λ (f : Known). Adds report course f line behind new) known adds))
    (c.in_ok-own.ensures.adds report are roster corrupt from)))
