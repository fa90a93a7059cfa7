use Rattle.std.proofs.Common.{◌≡◌, ◌++◌, map, take}
use Rattle.dn_verify.specs.Verdicts.{silent_line}
use Rattle.dn_verify.proofs.judging.tell_silent.Given as goal

abbrev pub invariant-loop-member : goal.invariant-loop-member
invariant-loop-member l = l.due.items ≡ l.initial.due.items ++ map silent_line (take l.member-index l.member-items)
