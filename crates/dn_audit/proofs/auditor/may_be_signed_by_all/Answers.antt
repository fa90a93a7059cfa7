use Rattle.std.proofs.Common.{ℕ, List, ap, length, arith}
use Rattle.dn_wire.specs.declared.ids.SignerId.TheVariants.{Server}
use Rattle.dn_records.specs.Records.{statement_bytes}
use Rattle.dn_audit.specs.Auditor.{MayStand}
use Rattle.dn_audit.proofs.Loops.{both_ways, refuted, granted, at_place, place_more}
use Rattle.dn_audit.proofs.auditor.may_be_signed_by_all.Goals as goal

pub returns-then-not-branch : goal.returns-then-not-branch
returns-then-not-branch c =
    let k = c.args.known.now in
    let P : ℕ → List ℕ → Type 0 = λ j x. MayStand k.roster.now k.group.now k.signings.now (Server record { 0 = j }) (statement_bytes c.args.statement.now) x in
    both_ways (λ all. refuted c.in_ok-may_be_signed.field-0 c.in_ok-may_be_signed.ensures c.if-not-branch.true
    (at_place P c.args.signatures.now c.get-signature-items.result.now c.get-signature-items.ensures c.loop-signature.signature-index c.loop-signature.number
    c.signature-item.result c.get.result.now c.loop-signature.invariant.0 c.get.ensures c.loop-signature-test.true c.signature-item.is all))

pub loop-signature-preserved : goal.loop-signature-preserved
loop-signature-preserved c =
    let k = c.args.known.now in
    let P : ℕ → List ℕ → Type 0 = λ j x. MayStand k.roster.now k.group.now k.signings.now (Server record { 0 = j }) (statement_bytes c.args.statement.now) x in (
      omega (arith, c.saturating_add-number.ensures, c.loop-signature.invariant.0, c.loop-signature-test.true, ap length c.get-signature-items.ensures, c.requires.few),
      place_more P c.args.signatures.now c.get-signature-items.result.now c.get-signature-items.ensures c.loop-signature.signature-index c.loop-signature.number
          c.signature-item.result c.get.result.now c.loop-signature.invariant.0 c.get.ensures c.loop-signature-test.true c.signature-item.is c.loop-signature.invariant.1
          (granted c.in_ok-may_be_signed.field-0 c.in_ok-may_be_signed.ensures c.if-not-branch.false),
    )
