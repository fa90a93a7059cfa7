use Rattle.std.proofs.Common.{◌≡◌, take}
use Rattle.dn_record_types.proofs.sequence.are_same.Given as goal

abbrev pub invariant-loop-i : goal.invariant-loop-i
invariant-loop-i g l = take l.i l.items ≡ take l.i l.others
