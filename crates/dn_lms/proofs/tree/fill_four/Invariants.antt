use Rattle.std.proofs.Common.{◌≡◌, ℕ, ◌+◌, ◌<◌, [], get_or}
use Rattle.dn_lms.specs.Tree.{leaf_hash}
use Rattle.dn_lms.proofs.tree.fill_four.Given as goal

abbrev pub invariant-lanes : goal.invariant-lanes
invariant-lanes l = ((i : ℕ) → i < l.k → get_or l.tree (l.r + i) [] ≡ leaf_hash l.id (l.r + i) (get_or l.keys i []))
    × ((i : ℕ) → i < l.r → get_or l.tree i [] ≡ get_or l.initial.tree i [])
