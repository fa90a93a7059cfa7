use Rattle.std.proofs.Common.{◌≡◌, ◌++◌, map}
use Rattle.dn_run_report.specs.Report.{lines_text, numbers_below, seal_line}
use Rattle.dn_run_report.proofs.head.put_seals_of.Given as goal

abbrev pub invariant-loop-j : goal.invariant-loop-j
invariant-loop-j l = l.out.items ≡ l.initial.out.items ++ lines_text (map (seal_line l.roster l.client.0) (numbers_below l.j))
