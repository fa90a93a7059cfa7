use Rattle.std.proofs.Common.{◌≡◌}
use Rattle.dn_runner.proofs.expanding.run_lines.Given as goal

abbrev pub invariant-loop-line : goal.invariant-loop-line
invariant-loop-line g l = l.run.group ≡ l.initial.run.group
