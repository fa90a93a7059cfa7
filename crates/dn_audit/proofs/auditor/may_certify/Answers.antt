use Rattle.std.proofs.Common.{ℕ, ◌<◌, [], length, slice_index_or, subst}
use Rattle.std.specs.Prelude.{IfOk, IsTrue, ◌↔◌}
use Rattle.dn_wire.specs.declared.ids.SignerId.TheVariants.{Server}
use Rattle.dn_record_types.specs.declared.statement.Statement.{Statement}
use Rattle.dn_records.specs.Records.{statement_bytes}
use Rattle.dn_audit.specs.Auditor.{MayStand}
use Rattle.dn_audit.proofs.auditor.may_certify.Goals as goal

pub returns : goal.returns
returns c =
    let k = c.args.known.now in
    subst (λ (s : Statement). IfOk c.may_be_signed_by_all.result (λ b. IsTrue b ↔ ((j : ℕ) → j < length c.args.signatures.now
    → MayStand k.roster.now k.group.now k.signings.now (Server record { 0 = j }) (statement_bytes s) (slice_index_or c.args.signatures.now j []))))
    c.sign.ensures.value c.may_be_signed_by_all.ensures
