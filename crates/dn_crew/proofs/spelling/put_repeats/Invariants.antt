use Rattle.std.proofs.Common.{◌≡◌, ◌++◌, map, take}
use Rattle.dn_crew.specs.Shares.{repeat_of}
use Rattle.dn_crew.proofs.spelling.put_repeats.Given as goal

abbrev pub invariant-loop-number : goal.invariant-loop-number
invariant-loop-number l = l.order.items ≡ l.fn.order.items ++ map repeat_of (take l.number-index l.repeats)
