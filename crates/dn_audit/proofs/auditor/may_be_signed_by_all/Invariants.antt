use Rattle.std.proofs.Common.{◌≡◌, ℕ, ◌<◌, [], slice_index_or}
use Rattle.dn_wire.specs.declared.ids.SignerId.TheVariants.{Server}
use Rattle.dn_records.specs.Records.{statement_bytes}
use Rattle.dn_audit.specs.Auditor.{MayStand}
use Rattle.dn_audit.proofs.auditor.may_be_signed_by_all.Given as goal

abbrev pub invariant-loop-signature : goal.invariant-loop-signature
invariant-loop-signature l = (l.number ≡ l.signature-index) × ((j : ℕ) → j < l.signature-index
    → MayStand l.known.roster.now l.known.group.now l.known.signings.now (Server record { 0 = j }) (statement_bytes l.statement) (slice_index_or l.signatures j []))
