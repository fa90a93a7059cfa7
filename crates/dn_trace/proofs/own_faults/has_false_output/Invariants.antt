use Rattle.dn_trace.specs.Evidence.{IsSumBelow}
use Rattle.dn_trace.proofs.own_faults.has_false_output.Given as goal

abbrev pub invariant-loop-j : goal.invariant-loop-j
invariant-loop-j l = IsSumBelow l.case l.j l.sum
