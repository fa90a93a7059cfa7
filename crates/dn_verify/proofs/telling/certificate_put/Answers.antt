use Rattle.std.proofs.Common.{◌≡◌, List, Some, None, ap, sym, subst, ◌∙◌}
use Rattle.std.specs.Prelude.{Option, MatchOption, option_and_then}
use Rattle.dn_record_types.specs.declared.body.Body.{Body}
use Rattle.dn_verify.specs.Known.{certificate_in, of_round}
use Rattle.dn_verify.proofs.ContentLemmas.{body_is}
use Rattle.dn_report.specs.declared.line.ReportLine.{ReportLine}
use Rattle.dn_verify.specs.Course.{first_outcome}
use Rattle.dn_verify.specs.Kept.{course_of}
use Rattle.dn_verify.specs.Rules.{put_in}
use Rattle.dn_verify.proofs.TellingLemmas.{certified_by, not_certified}
use Rattle.dn_verify.proofs.telling.certificate_put.Goals as goal

pub returns-clause-rule : goal.returns-clause-rule
returns-clause-rule c = λ report behind are from.
    let course = course_of c.args.course.now in
    certified_by report c.args.contents.now are course c.args.r c.args.server behind c.in_ok-payload.payload c.certificate_for.result
    (ap (λ (ls : List ReportLine). put_in course c.args.server (first_outcome ls)) from ∙ sym c.put_at.ensures ∙ c.in_ok-payload.was)
    (rw c.content_at.ensures at c.certificate_for.ensures.says)

pub returns-clause-body : goal.returns-clause-body
returns-clause-body c = λ report behind are from.
    let course = course_of c.args.course.now in
    let at = ap (λ (ls : List ReportLine). put_in course c.args.server (first_outcome ls)) from ∙ sym c.put_at.ensures ∙ c.in_ok-payload.was in
    let e = ap (certificate_in report c.args.r) at ∙ ap (option_and_then (of_round c.args.r)) (body_is report c.args.contents.now c.in_ok-payload.payload are) in
    subst (λ (b : Option Body). MatchOption c.certificate_for.result (b ≡ None) (λ x. b ≡ Some x.now.body)) (sym e)
    (rw c.content_at.ensures at c.certificate_for.ensures.body)
