use Rattle.std.proofs.Common.{◌≡◌, ◌-◌, [], ℕ, length, slice_get, IfSome, Some, None, vec_capacity}
use Rattle.dn_counts.specs.Numbers.{range}
use Rattle.dn_turns.specs.Rule.{view}
use Rattle.dn_turns.specs.Turns.{IsFresh}
use Rattle.dn_turns.proofs.turns.Turns.make.Given as goal

abbrev pub invariant-loop-number : goal.invariant-loop-number
invariant-loop-number g l = record {
  table : l.first.table_id ≡ l.table.shared.table_id;
  first : l.first.me ≡ (view l.passes (Some (g.L.Log.base l.fn.log)) (range l.number (l.passes - l.number)) 0 None None (g.L.Log.list l.fn.log) None [], []);
  all : (i : ℕ) → IfSome (slice_get l.all.items i) (IsFresh record { table = l.table.shared.table_id; passes = l.passes } (g.L.Log.base l.fn.log) (g.L.Log.list l.fn.log) i);
  long : length l.all.items ≡ l.number;
  room : vec_capacity l.all ≡ l.passes;
  passes : l.table.shared.key.passes ≡ l.passes;
  words : l.table.shared.table_id.words ≡ 2;
  slots : l.table.shared.table_id.slots ≡ 1;
}
