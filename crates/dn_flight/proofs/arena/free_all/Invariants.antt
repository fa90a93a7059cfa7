use Rattle.std.proofs.Common.{◌≡◌, ◌<◌, ◌+◌, ℕ, length}
use Rattle.dn_flight.specs.Arena.{none, node_at, free_node}
use Rattle.dn_flight.proofs.arena.free_all.Given as goal

abbrev pub invariant-loop-i : goal.invariant-loop-i
invariant-loop-i g l = record {
  long : length l.nodes ≡ none;
  free : (p : ℕ) → p < l.i → node_at l.nodes p ≡ free_node (p + 1);
}
