use Rattle.std.proofs.Common.{◌≡◌, ℕ, ◌+◌, ◌*◌, ◌<◌, [], get_or}
use Rattle.dn_lms.specs.Key.{leaves_of}
use Rattle.dn_lms.specs.Tree.{node}
use Rattle.dn_lms.proofs.tree.fill_leaves.Given as goal

abbrev pub invariant-fours : goal.invariant-fours
invariant-fours l = (i : ℕ) → i < 4 * l.four → get_or l.tree (leaves_of l.lms + i) []
    ≡ node (record { lms = l.lms; ots = l.params.code; id = l.id; seed = l.seed }) 0 (leaves_of l.lms + i)
