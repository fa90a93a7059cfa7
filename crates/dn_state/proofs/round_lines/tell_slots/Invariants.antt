use Rattle.std.proofs.Common.{◌≡◌, ◌++◌}
use Rattle.std.specs.Prelude.{flat_map}
use Rattle.dn_bits.specs.Bits.{below}
use Rattle.dn_state.specs.Telling.{slot_lines}
use Rattle.dn_state.proofs.round_lines.tell_slots.Given as goal

abbrev pub invariant-loop-slot : goal.invariant-loop-slot
invariant-loop-slot l = l.outcomes.items ≡ l.initial.outcomes.items ++ flat_map (slot_lines l.r l.layout l.output) (below l.slot)
