use Rattle.std.proofs.Common.{rules, ◌∙◌, sym, ap, arith, subst, ◌≡◌}
use Rattle.atomic_table.specs.Table.{step}
use mathlib.Core.Option.{none}
use Rattle.dn_leaf.specs.Counts.{IsDistinctBelow}
use Rattle.dn_leaf.proofs.Keeps.{draws, after_ok}
use Rattle.dn_leaf.proofs.drawer.Drawer.draw.Goals as goal

pub fetch_add-found-requires : goal.fetch_add-found-requires
fetch_add-found-requires c = (search rules, search rules, draws _ _ _ _ _ c.pass.invariant.live (sym c.pass.invariant.same ∙ c.in_default.is) (omega arith))

pub invariant_of-pass : goal.invariant_of-pass
invariant_of-pass c =
    let e : c.pass.inside.seat.me.0.count ≡ c.self.inside.count = ap (λ v. v.drawer.count) c.pass.view_is ∙ ap (λ d. d.count) c.requires ∙ sym (ap (λ d. d.count) c.self.view_is) ∙ sym c.self.invariant.0 in
    (after_ok (step 0 0 0 0 none) c.pass.inside.seat.me _ _ _ c.pass.invariant c.in_default.is (omega (arith, c.if-found-self.true)) c.fetch_add-found.ensures.2).0

pub returns-then-found-self-clause-apart : goal.returns-then-found-self-clause-apart
returns-then-found-self-clause-apart c =
    let e : c.pass.inside.seat.me.0.count ≡ c.self.inside.count = ap (λ v. v.drawer.count) c.pass.view_is ∙ ap (λ d. d.count) c.requires ∙ sym (ap (λ d. d.count) c.self.view_is) ∙ sym c.self.invariant.0 in
    let is = after_ok (step 0 0 0 0 none) c.pass.inside.seat.me c.fetch_add-found.new.seat.me c.pass.inside.seen c.fetch_add-found.result c.pass.invariant c.in_default.is (omega (arith, c.if-found-self.true)) c.fetch_add-found.ensures.2 in
    let f : c.fetch_add-found.new.seat.me.0.count ≡ c.args.self.now.count = is.1 ∙ ap (λ v. v.drawer.count) c.pass.view_is ∙ ap (λ d. d.count) c.requires in
    subst (IsDistinctBelow c.fetch_add-found.new.seat.me.0.draws) f is.0.apart
