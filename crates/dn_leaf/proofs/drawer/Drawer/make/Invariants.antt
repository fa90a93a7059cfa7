use Rattle.std.proofs.Common.{◌≡◌, ◌-◌, [], replicate, None, vec_capacity}
use Rattle.dn_leaf.specs.Rule.{view}
use Rattle.dn_leaf.specs.Drawer.{fresh}
use Rattle.dn_leaf.proofs.drawer.Drawer.make.Given as goal

abbrev pub invariant-loop : goal.invariant-loop
invariant-loop l = record {
  table : l.first.table_id ≡ l.table.shared.table_id;
  first : l.first.me ≡ (view l.count l.passes (l.passes - l.counter) [] None, []);
  all : l.all.items ≡ replicate l.counter (fresh record { table = l.table.shared.table_id; count = l.count; passes = l.passes });
  room : vec_capacity l.all ≡ l.passes;
  count : l.table.shared.key.count ≡ l.count;
  passes : l.table.shared.key.passes ≡ l.passes;
  words : l.table.shared.table_id.words ≡ 1;
}
