use Rattle.dn_trace.specs.Evidence.{AreCarried}
use Rattle.dn_trace.proofs.Upto.{upto}
use Rattle.dn_trace.proofs.carried.carried.Given as goal

abbrev pub invariant-loop-said : goal.invariant-loop-said
invariant-loop-said l = AreCarried (upto l.case l.said-index) l.pads.items
