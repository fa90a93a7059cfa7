use Rattle.std.proofs.Common.{refl}
use Rattle.dn_audit.specs.Auditor.{MayBeListed}
use Rattle.dn_audit.proofs.Loops.{both_ways, refuted, granted, all_more, at_item, all_end}
use Rattle.dn_audit.proofs.envelopes.Known.may_list.Goals as goal

pub returns-then-not-branch : goal.returns-then-not-branch
returns-then-not-branch c =
    let k = c.args.self.now in
    let v = c.args.inventory.now in
    both_ways (λ all. refuted c.in_ok-may_be_listed.field-0 c.in_ok-may_be_listed.ensures c.if-not-branch.true
    (at_item (MayBeListed k.roster.now k.group.now k.signings.now v) v.entries c.get-entry-items.result.now c.get-entry-items.ensures c.loop-entry.entry-index c.entry-item.result
    c.loop-entry-test.true c.entry-item.is all))

pub loop-entry-preserved : goal.loop-entry-preserved
loop-entry-preserved c =
    let k = c.args.self.now in
    let v = c.args.inventory.now in
    all_more (MayBeListed k.roster.now k.group.now k.signings.now v) v.entries c.get-entry-items.result.now c.get-entry-items.ensures c.loop-entry.entry-index c.entry-item.result
    c.loop-entry-test.true c.entry-item.is c.loop-entry.invariant (granted c.in_ok-may_be_listed.field-0 c.in_ok-may_be_listed.ensures c.if-not-branch.false)

pub returns : goal.returns
returns c =
    let k = c.args.self.now in
    let v = c.args.inventory.now in
    let all = all_end (MayBeListed k.roster.now k.group.now k.signings.now v) v.entries c.get-entry-items.result.now c.get-entry-items.ensures c.loop-entry.entry-index
    c.loop-entry-test.false c.loop-entry.invariant in
    (λ h. all, λ h. refl)
