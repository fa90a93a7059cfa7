use Rattle.std.proofs.Common.{take}
use Rattle.dn_lines.specs.Exact.{IsFree}
use Rattle.dn_lines.proofs.cutting.split.Given as goal

abbrev pub invariant-loop-i : goal.invariant-loop-i
invariant-loop-i l = IsFree l.byte (take l.i l.line)
