use Rattle.dn_trace.specs.Tables.{AreEntries}
use Rattle.dn_trace.proofs.Upto.{upto}
use Rattle.dn_trace.proofs.entries.heard_entries.Given as goal

abbrev pub invariant-loop-said : goal.invariant-loop-said
invariant-loop-said l = AreEntries (upto l.case l.said-index) l.submitted.items l.is_false.items
