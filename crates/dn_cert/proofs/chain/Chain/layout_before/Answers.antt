use Rattle.std.proofs.Common.{◌≡◌, length, ap, ◌∙◌, sym, refl}
use Rattle.dn_cert.specs.Floor.{is_due_thin}
use Rattle.dn_cert.specs.Chain.{bits_due}
use Rattle.dn_cert.proofs.FloorLemmas.{flags_same, flags_apart}
use Rattle.dn_cert.proofs.HeldLemmas.{held_ascend, body_seen, none_seen, found_one, found_none}
use Rattle.dn_cert.proofs.chain.Chain.layout_before.Goals as goal

pub find-requires : goal.find-requires
find-requires c = held_ascend (length c.self.inside.first) c.deref.result.now c.self.inside.held.items c.deref.ensures.value c.self.invariant.0

pub returns-then-is_some-clause-refused : goal.returns-then-is_some-clause-refused
returns-then-is_some-clause-refused c =
    let h = found_one _ c.find.result c.find.ensures.found (sym c.if-is_some.ensures) in
    let there = body_seen (length c.self.inside.first) c.deref.result.now c.self.inside.held.items c.args.self.now c.deref.ensures.value c.self.view_is h.0.now h.1.0 in
    (refl, (h.0.now.body, there, ap (λ r. r.0) h.1.1))

pub returns-in_default-clause-refused : goal.returns-in_default-clause-refused
returns-in_default-clause-refused c =
    let none = none_seen (length c.self.inside.first) c.deref.result.now c.self.inside.held.items c.args.self.now c.deref.ensures.value c.self.view_is c.args.body.now.r.0
    (found_none _ c.find.result c.find.ensures.missing (sym c.if-is_some.ensures)) in
    (refl, none, c.in_default.ensures.layout.0, c.in_default.ensures.layout.1)

pub returns-then-body-is_due_thin-clause-refused : goal.returns-then-body-is_due_thin-clause-refused
returns-then-body-is_due_thin-clause-refused c =
    let none = none_seen (length c.self.inside.first) c.deref.result.now c.self.inside.held.items c.args.self.now c.deref.ensures.value c.self.view_is c.args.body.now.r.0
    (found_none _ c.find.result c.find.ensures.missing (sym c.if-is_some.ensures)) in
    let apart = flags_apart c.args.body.now.thin c.is_due_thin.result c.if-body-is_due_thin.true in
    (ap length c.get.ensures, c.count-last.ensures.count, none, (c.in-Some.before.now, c.in-Some.ensures.layout), (λ floor. apart (floor ∙ sym (c.is_due_thin.ensures ∙ (λ i. is_due_thin c.args.body.now.version (length (c.get.ensures i)) (c.count-last.ensures.count i))))))

pub returns-then-have-need-clause-refused : goal.returns-then-have-need-clause-refused
returns-then-have-need-clause-refused c =
    let none = none_seen (length c.self.inside.first) c.deref.result.now c.self.inside.held.items c.args.self.now c.deref.ensures.value c.self.view_is c.args.body.now.r.0
    (found_none _ c.find.result c.find.ensures.missing (sym c.if-is_some.ensures)) in
    (none, (c.in-Some.before.now, c.in-Some.ensures.layout, c.bits_due-need.ensures), flags_same c.args.body.now.thin c.is_due_thin.result c.if-body-is_due_thin.false ∙ (c.is_due_thin.ensures ∙ (λ i. is_due_thin c.args.body.now.version (length (c.get.ensures i)) (c.count-last.ensures.count i))), c.len-have.ensures, c.if-have-need.true)

pub returns-clause-follows : goal.returns-clause-follows
returns-clause-follows c =
    let none = none_seen (length c.self.inside.first) c.deref.result.now c.self.inside.held.items c.args.self.now c.deref.ensures.value c.self.view_is c.args.body.now.r.0
    (found_none _ c.find.result c.find.ensures.missing (sym c.if-is_some.ensures)) in
    let long : length c.args.body.now.out ≡ bits_due c.in-Some.before.now c.args.body.now = sym c.len-have.ensures ∙ c.if-have-need.false ∙ c.bits_due-need.ensures in
    (record { new = none; layout = c.in-Some.before.now; after = c.in-Some.ensures.layout; floor = flags_same c.args.body.now.thin c.is_due_thin.result c.if-body-is_due_thin.false ∙ (c.is_due_thin.ensures ∙ (λ i. is_due_thin c.args.body.now.version (length (c.get.ensures i)) (c.count-last.ensures.count i))); long = long }, c.in-Some.ensures.layout, long)
