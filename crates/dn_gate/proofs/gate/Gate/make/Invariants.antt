use Rattle.std.proofs.Common.{◌≡◌, ◌+◌, ◌-◌, [], ℕ, length, slice_get, IfSome, vec_capacity}
use Rattle.dn_counts.specs.Numbers.{range}
use Rattle.dn_gate.specs.Pass.{IsFresh, numbers_of}
use Rattle.dn_gate.proofs.Made.{idle_view}
use Rattle.dn_gate.proofs.gate.Gate.make.Given as goal

abbrev pub invariant-loop-number : goal.invariant-loop-number
invariant-loop-number g l = record {
  table : l.first.table_id ≡ l.table.shared.table_id;
  first : l.first.me ≡ (idle_view l.passes l.clients (numbers_of l.fn.before) (range l.number (l.passes - l.number)), []);
  all : (i : ℕ) → IfSome (slice_get l.all.items i) (IsFresh record { table = l.table.shared.table_id; clients = l.clients; passes = l.passes; before = numbers_of l.fn.before } i);
  long : length l.all.items ≡ l.number;
  room : vec_capacity l.all ≡ l.passes;
  clients : l.table.shared.key.clients ≡ l.clients;
  passes : l.table.shared.key.passes ≡ l.passes;
  before : l.table.shared.key.before.value.items ≡ l.fn.before;
  words : l.table.shared.table_id.words ≡ l.clients + 1;
}
