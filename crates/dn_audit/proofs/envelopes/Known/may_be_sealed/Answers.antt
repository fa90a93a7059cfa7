use Rattle.std.proofs.Common.{ℕ, List, subst, sym}
use Rattle.dn_records.specs.Records.{statement_bytes}
use Rattle.dn_audit.specs.Auditor.{MayStand}
use Rattle.dn_audit.proofs.Loops.{both_ways, refuted}
use Rattle.dn_audit.proofs.envelopes.Known.may_be_sealed.Goals as goal

pub returns-then-not-branch : goal.returns-then-not-branch
returns-then-not-branch c =
    let k = c.args.self.now in
    let e = c.args.envelope.now in
    both_ways (λ may. refuted c.in_ok-may_be_signed.field-0 c.in_ok-may_be_signed.ensures c.if-not-branch.true
    (subst (λ (x : List ℕ). MayStand k.roster.now k.group.now k.signings.now e.signer (statement_bytes e.statement) x) (sym c.get-signature.ensures) may.itself))
