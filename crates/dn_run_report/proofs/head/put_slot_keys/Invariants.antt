use Rattle.std.proofs.Common.{◌≡◌, ◌++◌, map}
use Rattle.dn_run_report.specs.Report.{lines_text, numbers_below, slot_key_line}
use Rattle.dn_run_report.proofs.head.put_slot_keys.Given as goal

abbrev pub invariant-loop-s : goal.invariant-loop-s
invariant-loop-s l = l.out.items ≡ l.initial.out.items ++ lines_text (map (slot_key_line l.roster) (numbers_below l.s))
