use Rattle.std.proofs.Common.{◌≡◌, take}
use Rattle.dn_record_types.proofs.sequence.copies.Given as goal

abbrev pub invariant-loop-item : goal.invariant-loop-item
invariant-loop-item g l = l.list.items ≡ take l.item-index l.items
