use Rattle.std.proofs.Common.{◌≡◌, ◌+◌, ℕ, List, Some, None, ap, sym, rules, ◌∙◌}
use Rattle.std.specs.Prelude.{Option, drop}
use Rattle.std.proofs.lemmas.Bool.{false≢true}
use Rattle.std.proofs.lemmas.List.{drop-drop}
use Rattle.dn_wire.specs.declared.ids.Member.{Member}
use Rattle.dn_wire.specs.declared.ids.Member.TheVariants.{Client, Server}
use Rattle.dn_report.specs.declared.line.ReportLine.{ReportLine}
use Rattle.dn_verify.specs.declared.scene.Scene.TheVariants.{Delivery}
use Rattle.dn_verify.specs.Course.{CourseView, first_outcome}
use Rattle.dn_verify.specs.Kept.{course_of}
use Rattle.dn_verify.specs.Rules.{sends_by, sends_next}
use Rattle.dn_verify.proofs.TellingLemmas.{none_submitted, none_sent, another_receiver, receipt_sent}
use Rattle.dn_verify.proofs.telling.has_receipt.Goals as goal

-- what is sent next, told by the lines from a place on
sent_at : (c : CourseView) (ls : List ReportLine) (next : ℕ) → sends_next c (drop next ls) ≡ sends_by c (first_outcome (drop next ls)) (first_outcome (drop (next + 1) ls))
sent_at c ls next = ap (λ (l : List ReportLine). sends_by c (first_outcome (drop next ls)) (first_outcome l)) (drop-drop 1 next ls)

pub returns-in_default-submitted : goal.returns-in_default-submitted
returns-in_default-submitted c = λ report are. (
  λ h. absurd (false≢true h),
  λ h. absurd (none_submitted report c.args.contents.now are (course_of c.args.course.now) c.args.key c.args.word (drop c.args.next c.args.lines.now)
      c.in-Delivery.to c.in-Delivery.payload c.in-Delivery.is (rw c.content_at.ensures at c.in_default-submitted.ensures) h),
)

pub returns-in_default-sent_next : goal.returns-in_default-sent_next
returns-in_default-sent_next c = λ report are.
    let course = course_of c.args.course.now in (
      λ h. absurd (false≢true h),
      λ h. absurd (none_sent report c.args.contents.now are course c.args.key c.args.word (drop c.args.next c.args.lines.now)
          (sent_at course c.args.lines.now c.args.next ∙ sym c.in_default-sent_next.ensures) h),
    )

pub returns-then-eq : goal.returns-then-eq
returns-then-eq c = λ report are.
    let course = course_of c.args.course.now in
    let to : c.in-Delivery.to ≡ Server c.args.key.server = search rules in
    let receiver : c.in-Some-sent_next.receiver ≡ Client c.args.key.client = search rules in
    receipt_sent report c.args.contents.now are course c.args.key c.args.word (drop c.args.next c.args.lines.now)
    c.in-Delivery.payload c.in-Some.digest c.in-Some-sent_next.receipt c.is_receipt.result
    (c.in-Delivery.is ∙ ap (λ (m : Member). Delivery m c.in-Delivery.payload) to)
    (rw c.content_at.ensures at c.in-Some.ensures)
    (sent_at course c.args.lines.now c.args.next ∙ sym c.in-Some-sent_next.ensures
    ∙ ap (λ (m : Member). Some (c.in-Some-sent_next.receipt, m)) receiver)
    (rw c.content_at-then-eq.ensures at c.is_receipt.ensures)

pub returns-else-eq : goal.returns-else-eq
returns-else-eq c = λ report are.
    let course = course_of c.args.course.now in
    let other : c.in-Some-sent_next.receiver ≡ Client c.args.key.client → ⊥ = search rules in (
      λ h. absurd (false≢true (sym c.if-eq.false ∙ h)),
      λ h. absurd (another_receiver report c.args.contents.now are course c.args.key c.args.word (drop c.args.next c.args.lines.now)
          c.in-Some-sent_next.receipt c.in-Some-sent_next.receiver
          (sent_at course c.args.lines.now c.args.next ∙ sym c.in-Some-sent_next.ensures) other h),
    )
