use Rattle.std.proofs.Common.{length}
use Rattle.std.specs.Prelude.{◌↔◌}
use Rattle.dn_audit.specs.Auditor.{SealsAreTheirs}
use Rattle.dn_audit.proofs.envelopes.Known.may_be_put.Given as goal

abbrev pub invariant-loop-rest : goal.invariant-loop-rest
invariant-loop-rest l = SealsAreTheirs l.self.roster.now l.self.group.now l.self.signings.now l.rest ↔ SealsAreTheirs l.self.roster.now l.self.group.now l.self.signings.now l.bytes

abbrev pub decreases-loop-rest : goal.decreases-loop-rest
decreases-loop-rest l = length l.rest
