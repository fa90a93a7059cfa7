use Rattle.std.proofs.Common.{take}
use Rattle.std.specs.Prelude.{All}
use Rattle.dn_audit.specs.Auditor.{MayBeListed}
use Rattle.dn_audit.proofs.envelopes.Known.may_list.Given as goal

abbrev pub invariant-loop-entry : goal.invariant-loop-entry
invariant-loop-entry l = All (MayBeListed l.self.roster.now l.self.group.now l.self.signings.now l.inventory) (take l.entry-index l.inventory.entries)
