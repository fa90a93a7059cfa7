use Rattle.std.proofs.Common.{◌≡◌, ◌+◌, ◌++◌, ◌∷◌, [], List, false, take, length, append_assoc, append-nil, sym, subst, ◌∙◌}
use Rattle.dn_report.specs.declared.line.ReportLine.{ReportLine}
use Rattle.std.proofs.lemmas.List.Elements.{All-push}
use Rattle.dn_report.specs.Lines.{IsLine, line_text}
use Rattle.dn_verify.specs.Reading.{IsRead}
use Rattle.dn_verify.specs.Reading.IsRead.{no_line, line_more as read_more}
use Rattle.dn_verify.proofs.ReportLemmas.{at_rest, line_more, front_of, unread}
use Rattle.dn_verify.proofs.report_lines.read_lines.Goals as goal

pub loop-line-preserved : goal.loop-line-preserved
loop-line-preserved c =
    let found = c.in-Ok.ensures.found in
    let parts = c.in-Some.ensures.0 in
    rw c.in_ok-push-in-Ok.ensures.items (record {
      fit = All-push IsLine c.loop-line.lines.items c.in-Ok.line c.loop-line.invariant.fit found.0;
      spelled = line_more c.args.text.now c.loop-line.rest.now c.in-Some.line.now c.in-Some.after.now 10 c.loop-line.lines.items c.in-Ok.line c.loop-line.invariant.spelled parts found.1;
      read = λ ls whole h.
          rw append_assoc
          (c.loop-line.invariant.read (c.in-Ok.line ∷ ls) whole
          (read_more c.loop-line.rest.now c.in-Some.line.now c.in-Some.after.now c.in-Ok.line ls whole
          (record { parts = parts; free = c.in-Some.ensures.1 })
          (record { fit = found.0; text = sym (front_of c.loop-line.rest.now c.in-Some.line.now c.in-Some.after.now 10 parts) ∙ found.1 })
          h));
    })

pub returns-in-Err-Grammar-clause-read : goal.returns-in-Err-Grammar-clause-read
returns-in-Err-Grammar-clause-read c =
    let rest = c.loop-line.rest.now in
    let line = c.in-Some.line.now in
    let after = c.in-Some.after.now in
    let parts = c.in-Some.ensures.0 in
    subst (λ (ls : List ReportLine). IsRead c.args.text.now ls false) (append-nil c.loop-line.lines.items)
    (c.loop-line.invariant.read [] false
    (no_line rest line after (record { parts = parts; free = c.in-Some.ensures.1 })
    (λ l spells. unread c.in-Err-Grammar.field-0 c.in-Err-Grammar.field-0-is l
    (c.in-Err-Grammar.ensures.only l spells.fit (front_of rest line after 10 parts ∙ spells.text)))))

pub returns-clause-read : goal.returns-clause-read
returns-clause-read c =
    subst (λ (ls : List ReportLine). IsRead c.args.text.now ls c.is_empty-whole.result) (append-nil c.loop-line.lines.items)
    (c.loop-line.invariant.read [] c.is_empty-whole.result (at_rest c.loop-line.rest.now c.is_empty-whole.result c.is_empty-whole.ensures c.in_default.ensures))
