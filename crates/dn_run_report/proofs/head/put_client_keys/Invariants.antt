use Rattle.std.proofs.Common.{◌≡◌, ◌++◌, map}
use Rattle.dn_run_report.specs.Report.{lines_text, numbers_below, client_key_line}
use Rattle.dn_run_report.proofs.head.put_client_keys.Given as goal

abbrev pub invariant-loop-i : goal.invariant-loop-i
invariant-loop-i l = l.out.items ≡ l.initial.out.items ++ lines_text (map (client_key_line l.roster) (numbers_below l.i))
