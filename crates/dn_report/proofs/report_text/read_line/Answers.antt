use Rattle.std.proofs.Common.{◌≡◌, ℕ, List, Option, Some, Result, Ok, Err, subst}
use Rattle.std.specs.Prelude.{IfOk}
use Rattle.dn_lines.specs.Field.{Gives}
use Rattle.dn_lines.specs.declared.fault.LineFault.{LineFault}
use Rattle.dn_report.specs.declared.line.ReportLine.{ReportLine}
use Rattle.dn_report.specs.Lines.{IsLine, line_text, line_of}
use Rattle.dn_report.proofs.LineLaws.{line_found, line_known}
use Rattle.dn_report.proofs.report_text.read_line.Goals as goal

gives_found : (r : Result ReportLine LineFault) (bytes : List ℕ) → Gives (λ x. x) r (line_of bytes) → IfOk r (λ l. IsLine l × (bytes ≡ line_text l))
gives_found (Ok l) bytes h = line_found bytes l h
gives_found (Err e) bytes h = tt

gives_only : (r : Result ReportLine LineFault) (bytes : List ℕ) (l : ReportLine) → Gives (λ x. x) r (line_of bytes) → IsLine l → bytes ≡ line_text l → Gives (λ x. x) r (Some l)
gives_only r bytes l h fits e = subst (λ (read : Option ReportLine). Gives (λ x. x) r read) (line_known bytes l fits e) h

pub returns-clause-found : goal.returns-clause-found
returns-clause-found c = gives_found c.whole_line.result c.args.bytes.now c.whole_line.ensures

pub returns-clause-only : goal.returns-clause-only
returns-clause-only c = λ l fits e. gives_only c.whole_line.result c.args.bytes.now l c.whole_line.ensures fits e
