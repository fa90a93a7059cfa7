use Rattle.dn_trace.specs.Evidence.{Tells}
use Rattle.dn_trace.specs.Challenged.{IsOpened}
use Rattle.dn_trace.proofs.judging.closed_servers.Given as goal

abbrev pub invariant-loop-j : goal.invariant-loop-j
invariant-loop-j l = Tells l.flags.items l.j (λ x. ¬ IsOpened l.case x)
