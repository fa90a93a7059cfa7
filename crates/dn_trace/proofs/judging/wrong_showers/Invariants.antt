use Rattle.dn_trace.specs.Evidence.{Tells}
use Rattle.dn_trace.specs.Reasons.{ShowsWrong}
use Rattle.dn_trace.proofs.judging.wrong_showers.Given as goal

abbrev pub invariant-loop-j : goal.invariant-loop-j
invariant-loop-j l = Tells l.flags.items l.j (ShowsWrong l.case)
