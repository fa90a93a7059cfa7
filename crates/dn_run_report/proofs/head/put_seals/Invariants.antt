use Rattle.std.proofs.Common.{◌≡◌, ◌++◌}
use Rattle.std.specs.List.{flat_map}
use Rattle.dn_run_report.specs.Report.{lines_text, numbers_below, seal_lines_of}
use Rattle.dn_run_report.proofs.head.put_seals.Given as goal

abbrev pub invariant-loop-i : goal.invariant-loop-i
invariant-loop-i l = l.out.items ≡ l.initial.out.items ++ lines_text (flat_map (seal_lines_of l.roster) (numbers_below l.i))
