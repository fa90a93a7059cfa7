use Rattle.std.proofs.Common.{◌≡◌, ◌++◌, map}
use Rattle.dn_run_report.specs.Report.{lines_text, numbers_below, server_key_line}
use Rattle.dn_run_report.proofs.head.put_server_keys.Given as goal

abbrev pub invariant-loop-j : goal.invariant-loop-j
invariant-loop-j l = l.out.items ≡ l.initial.out.items ++ lines_text (map (server_key_line l.roster) (numbers_below l.j))
