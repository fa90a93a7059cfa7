use Rattle.std.proofs.Common.{◌≡◌, ◌++◌, List, Bool, length}
use Rattle.std.specs.Prelude.{All}
use Rattle.std.specs.List.{flat_map}
use Rattle.dn_report.specs.Lines.{IsLine, line_text}
use Rattle.dn_report.specs.declared.line.ReportLine.{ReportLine}
use Rattle.dn_verify.specs.Reading.{IsRead}
use Rattle.dn_verify.proofs.report_lines.read_lines.Given as goal

abbrev pub invariant-loop-line : goal.invariant-loop-line
invariant-loop-line l = record {
  fit : All IsLine l.lines.items;
  spelled : l.text ≡ flat_map line_text l.lines.items ++ l.rest;
  read : (ls : List ReportLine) (whole : Bool) → IsRead l.rest ls whole → IsRead l.text (l.lines.items ++ ls) whole;
}

abbrev pub decreases-loop-line : goal.decreases-loop-line
decreases-loop-line l = length l.rest
