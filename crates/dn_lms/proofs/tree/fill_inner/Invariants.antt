use Rattle.std.proofs.Common.{◌≡◌, ◌-◌, ◌*◌, length}
use Rattle.dn_lms.specs.Key.{Key, IsLms, leaves_of}
use Rattle.dn_lms.specs.Filled.{HasLeaves, HasAbove}
use Rattle.dn_lms.proofs.tree.fill_inner.Given as goal

abbrev pub invariant-nodes : goal.invariant-nodes
invariant-nodes l = (length l.tree ≡ length l.initial.tree) × ((key : Key) → IsLms key.lms → key.id ≡ l.id → length l.initial.tree ≡ 2 * leaves_of key.lms → HasLeaves key l.initial.tree
    → HasAbove key l.tree (l.count - l.done))
