use Rattle.std.proofs.Common.{rules, arith, ap, sym, ◌≡◌, ◌∙◌, ap₂, cond, nat_le, Some, None}
use Rattle.atomic_table.specs.Table.{step}
use mathlib.Core.Option.{none}
use Rattle.dn_counts.specs.Numbers.{first_some}
use Rattle.dn_leaf.specs.Rule.{after_look}
use Rattle.dn_leaf.proofs.Keeps.{looks, joins, after_join, joined_apart}
use Rattle.dn_leaf.proofs.drawer.Drawer.join.Goals as goal

pub join_seat-requires : goal.join_seat-requires
join_seat-requires c = (search rules, search rules, search rules, search rules, joins _ _ _ _ _ _ c.pass.invariant.live)

pub load-found-requires : goal.load-found-requires
load-found-requires c = (search rules, search rules, looks _ _ _ _ _ (omega (arith, c.pass.invariant.live, ap (λ m. m.0.stands) c.join_seat.ensures.2)))

pub invariant_of-pass : goal.invariant_of-pass
invariant_of-pass c =
    let me = c.join_seat.ensures.2 in
    let seen : c.join_seat.new.seat.me.0.seen ≡ c.earlier.result = ap (λ m. m.0.seen) me ∙ ap₂ first_some (sym c.pass.invariant.same) (sym c.other.invariant.same) ∙ sym c.earlier.ensures in
    let count : c.join_seat.new.seat.me.0.count ≡ c.self.inside.count = ap (λ m. m.0.count) me ∙ ap (λ v. v.drawer.count) c.pass.view_is ∙ ap (λ d. d.count) c.requires.0 ∙ sym (ap (λ d. d.count) c.self.view_is) ∙ sym c.self.invariant.0 in
    let same : c.noted-pass-inside.result ≡ (after_look c.join_seat.new.seat.me.0 c.load-found.result).seen = c.noted-pass-inside.ensures ∙ (λ i. first_some (sym seen i) (cond (nat_le (sym count i) c.load-found.result) (Some c.load-found.result) None)) in
    after_join (step 0 0 0 0 none) c.join_seat.new.seat.me _ _ _ (search rules) (omega (arith, c.pass.invariant.live, ap (λ m. m.0.stands) me)) same c.load-found.ensures.2

pub returns-clause-apart : goal.returns-clause-apart
returns-clause-apart c = joined_apart (step 0 0 0 0 none) c.join_seat.new.seat.me _ _ _ c.load-found.ensures.2 (ap (λ m. m.0.count) c.join_seat.ensures.2 ∙ ap (λ v. v.drawer.count) c.pass.view_is ∙ ap (λ d. d.count) c.requires.0)
