use Rattle.std.proofs.Common.{◌≡◌, ◌<◌, ◌≤◌, ℕ, [], length, map, get_or, vec_capacity}
use Rattle.std.specs.List.Sorted.{IsStrictlyIncreasing}
use Rattle.dn_gate.specs.Order.{in_order}
use Rattle.dn_counts.specs.Counts.{times, total}
use Rattle.dn_gate.specs.Rule.{many, is_mark}
use Rattle.dn_gate.specs.Collected.{named, clients_of, took_all}
use Rattle.dn_gate.proofs.collect.take_all.Given as goal

abbrev pub invariant-loop-i : goal.invariant-loop-i
invariant-loop-i g l = record {
  table : l.seat.table_id ≡ l.initial.seat.table_id;
  id : l.seat.id ≡ l.initial.seat.id;
  me : l.seat.me ≡ (took_all l.initial.seat.me.0 (clients_of l.out.items), []);
  room : vec_capacity l.out ≡ vec_capacity l.initial.out;
  few : length l.out.items ≤ l.i;
  full : many (λ j. total (is_mark j) l.initial.seat.me.0.looked) l.i ≤ length l.out.items;
  counted : length l.out.items ≤ many (λ j. times j (clients_of l.out.items)) l.i;
  below : (k : ℕ) → k < length (clients_of l.out.items) → get_or (clients_of l.out.items) k 0 < l.i;
  order : IsStrictlyIncreasing (clients_of l.out.items);
  whole : length l.initial.seat.me.0.numbers ≡ l.initial.seat.me.0.passes → l.out.items ≡ map named (in_order l.i l.initial.seat.me.0.values);
}
