use Rattle.std.proofs.Common.{◌≡◌, ◌++◌}
use Rattle.dn_ots.specs.Ots.{joined}
use Rattle.dn_lms.specs.Key.{Key}
use Rattle.dn_lms.specs.Tree.{path_node}
use Rattle.dn_lms.specs.Filled.{HasTree}
use Rattle.dn_lms.proofs.tree.append_path.Given as goal

abbrev pub invariant-levels : goal.invariant-levels
invariant-levels l = (key : Key) → key.lms ≡ l.lms → HasTree key l.tree → l.out.items ≡ l.initial.out.items ++ joined (path_node key l.q) l.i
