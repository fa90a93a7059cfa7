use Rattle.std.proofs.Common.{◌++◌}
use Rattle.std.specs.Ordering.{nat_cmp}
use Rattle.std.specs.BTreeMap as tree
use Rattle.dn_trace.specs.Trial.{round_of}
use Rattle.dn_trace.specs.Evidence.{number_by}
use Rattle.dn_trace.proofs.Indexing.{Indexed}
use Rattle.dn_trace.proofs.twice.is_twice.Given as goal

abbrev pub invariant-loop-i : goal.invariant-loop-i
invariant-loop-i l = Indexed (number_by l.j.0 (round_of l.case) l.case.k) (λ x. x.statement) (l.case.given ++ l.carried) (tree.get nat_cmp l.first) l.i
