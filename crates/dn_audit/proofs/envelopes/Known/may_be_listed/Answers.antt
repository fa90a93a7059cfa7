use Rattle.std.proofs.Common.{ℕ, List, subst}
use Rattle.std.specs.Prelude.{IfOk, IsTrue, ◌↔◌}
use Rattle.dn_wire.specs.declared.ids.SignerId.TheVariants.{Client}
use Rattle.dn_record_types.specs.declared.statement.Statement.{Statement}
use Rattle.dn_records.specs.Records.{statement_bytes}
use Rattle.dn_audit.specs.Auditor.{MayStand}
use Rattle.dn_audit.proofs.envelopes.Known.may_be_listed.Goals as goal

pub returns : goal.returns
returns c =
    let k = c.args.self.now in
    let e = c.args.entry.now in
    subst (λ (s : Statement). IfOk c.may_be_signed.result (λ b. IsTrue b ↔ MayStand k.roster.now k.group.now k.signings.now (Client e.client) (statement_bytes s) e.signature))
    c.submission-submission.ensures.value
    (subst (λ (x : List ℕ). IfOk c.may_be_signed.result (λ b. IsTrue b ↔ MayStand k.roster.now k.group.now k.signings.now (Client e.client)
    (statement_bytes c.submission-submission.result) x)) c.get.ensures c.may_be_signed.ensures)
