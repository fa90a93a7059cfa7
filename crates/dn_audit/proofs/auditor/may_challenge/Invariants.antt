use Rattle.std.proofs.Common.{take}
use Rattle.std.specs.Prelude.{All}
use Rattle.dn_audit.specs.Auditor.{SealsAreTheirs}
use Rattle.dn_audit.proofs.auditor.may_challenge.Given as goal

abbrev pub invariant-loop-envelope : goal.invariant-loop-envelope
invariant-loop-envelope l = All (SealsAreTheirs l.known.roster.now l.known.group.now l.known.signings.now) (take l.envelope-index l.envelopes)
