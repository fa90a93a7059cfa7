use Rattle.std.proofs.Common.{◌≡◌, ◌/◌, ◌^◌}
use Rattle.dn_lms.specs.Tree.{climb}
use Rattle.dn_lms.proofs.nodes.climb.Given as goal

abbrev pub invariant-levels : goal.invariant-levels
invariant-levels l = (l.r ≡ l.initial.r / 2 ^ l.i) × (l.value ≡ climb l.id l.path l.initial.r l.initial.value l.i)
