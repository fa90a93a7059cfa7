use Rattle.std.proofs.Common.{subst, sym, refl}
use Rattle.dn_audit.specs.Auditor.{SealsAreTheirs}
use Rattle.dn_audit.proofs.Loops.{both_ways, refuted, granted, all_more, at_item, all_end}
use Rattle.dn_audit.proofs.auditor.may_challenge.Goals as goal

pub returns-then-not-branch : goal.returns-then-not-branch
returns-then-not-branch c =
    let k = c.args.known.now in
    both_ways (λ all. refuted c.in_ok-may_be_put.field-0 c.in_ok-may_be_put.ensures c.if-not-branch.true
    (subst (SealsAreTheirs k.roster.now k.group.now k.signings.now) (sym c.get.ensures)
    (at_item (SealsAreTheirs k.roster.now k.group.now k.signings.now) c.args.envelopes.now c.get-envelope-items.result.now c.get-envelope-items.ensures c.loop-envelope.envelope-index
    c.envelope-item.result c.loop-envelope-test.true c.envelope-item.is all)))

pub loop-envelope-preserved : goal.loop-envelope-preserved
loop-envelope-preserved c =
    let k = c.args.known.now in
    all_more (SealsAreTheirs k.roster.now k.group.now k.signings.now) c.args.envelopes.now c.get-envelope-items.result.now c.get-envelope-items.ensures c.loop-envelope.envelope-index
    c.envelope-item.result c.loop-envelope-test.true c.envelope-item.is c.loop-envelope.invariant
    (subst (SealsAreTheirs k.roster.now k.group.now k.signings.now) c.get.ensures (granted c.in_ok-may_be_put.field-0 c.in_ok-may_be_put.ensures c.if-not-branch.false))

pub returns : goal.returns
returns c =
    let k = c.args.known.now in
    let all = all_end (SealsAreTheirs k.roster.now k.group.now k.signings.now) c.args.envelopes.now c.get-envelope-items.result.now c.get-envelope-items.ensures
    c.loop-envelope.envelope-index c.loop-envelope-test.false c.loop-envelope.invariant in
    (λ h. all, λ h. refl)
