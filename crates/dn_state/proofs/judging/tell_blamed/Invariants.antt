use Rattle.std.proofs.Common.{◌≡◌, ◌++◌, map, take}
use Rattle.dn_state.specs.Verdicts.{blame_line}
use Rattle.dn_state.proofs.judging.tell_blamed.Given as goal

abbrev pub invariant-loop-member : goal.invariant-loop-member
invariant-loop-member l = l.outcomes.items ≡ l.initial.outcomes.items ++ map blame_line (take l.member-index l.member-items)
