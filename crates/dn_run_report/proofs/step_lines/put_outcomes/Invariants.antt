use Rattle.std.proofs.Common.{◌≡◌, ◌++◌, map, take}
use Rattle.dn_report.specs.declared.line.ReportLine.TheVariants as lines
use Rattle.dn_run_report.specs.Report.{lines_text}
use Rattle.dn_run_report.proofs.step_lines.put_outcomes.Given as goal

abbrev pub invariant-loop-outcome : goal.invariant-loop-outcome
invariant-loop-outcome l = l.out.items ≡ l.initial.out.items ++ lines_text (map lines.Outcome (take l.outcome-index l.outcomes))
