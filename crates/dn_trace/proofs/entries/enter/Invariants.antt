use Rattle.std.proofs.Common.{take}
use Rattle.dn_trace.specs.Tables.{AreAdded, TellsAllVerify}
use Rattle.dn_trace.proofs.entries.enter.Given as goal

abbrev pub invariant-loop-entry : goal.invariant-loop-entry
invariant-loop-entry l = AreAdded l.case.roster l.v.r l.v.prev (take l.entry-index l.v.entries) l.initial.submitted.items l.submitted.items
    × TellsAllVerify l.case.roster l.v.r l.v.prev (take l.entry-index l.v.entries) l.all
