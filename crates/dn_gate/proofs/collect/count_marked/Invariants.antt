use Rattle.std.proofs.Common.{◌≡◌, ◌≤◌, ℕ, List, [], length, map}
use Rattle.std.specs.List.{range_with_len}
use Rattle.dn_counts.specs.Counts.{total}
use Rattle.dn_gate.specs.Rule.{looked_all, many, marked_count, marks_upto, is_mark}
use Rattle.dn_gate.proofs.collect.count_marked.Given as goal

abbrev pub invariant-loop-i : goal.invariant-loop-i
invariant-loop-i g l = record {
  table : l.seat.table_id ≡ l.initial.seat.table_id;
  id : l.seat.id ≡ l.initial.seat.id;
  looked : (found : List (ℕ × ℕ)) × (l.seat.me ≡ (looked_all l.initial.seat.me.0 found, [])) × (map (λ w. w.0) found ≡ range_with_len 0 l.i) × (marked_count found ≡ l.count) × (marked_count found ≤ many (λ j. total (is_mark j) found) l.i);
  low : l.count ≤ l.i;
  whole : length l.initial.seat.me.0.numbers ≡ l.initial.seat.me.0.passes → l.count ≡ marks_upto l.initial.seat.me.0 l.i;
}
