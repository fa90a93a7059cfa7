use Rattle.std.proofs.Common.{rules, arith, ap, ap₂, ◌∙◌, ◌≡◌, ◌⊎◌, None, List, subst, min, length, length-append, []}
use Rattle.atomic_table.specs.Table.{step}
use mathlib.Core.Option.{none}
use Rattle.dn_gate.specs.Draws.{Draw}
use Rattle.dn_gate.specs.Rule.{At, joined}
use Rattle.dn_gate.specs.Order.{IsMerge}
use Rattle.dn_gate.specs.Pass.{PassView}
use Rattle.dn_gate.proofs.Merges.{merged_order}
use Rattle.dn_gate.proofs.Keeps.{settles}
use Rattle.dn_gate.proofs.Joins.{joins}
use Rattle.dn_gate.proofs.Joined.{joined_pass, joined_window, one_closing}
use Rattle.dn_gate.proofs.Histories.{is_history}
use Rattle.dn_gate.proofs.gate.Gate.join.Goals as goal

pub join_seat-requires : goal.join_seat-requires
join_seat-requires g c =
    let w₁ = ap (λ p. p.claim) c.other.view_is ∙ c.requires.ready.1.0 in
    let w₂ = ap (λ p. p.unmarked) c.other.view_is ∙ c.requires.ready.1.1 in
    (search rules, search rules, c.other.invariant.empty (w₁, w₂), search rules, joins _ _ _ _ _ _ _ _ c.pass.invariant.live w₁ w₂)

pub load-requires : goal.load-requires
load-requires g c =
    let me = c.join_seat.ensures.2 in
    (search rules, search rules, settles _ _ _ _ _ _ _ (omega (arith, c.pass.invariant.live, ap (λ m. length m.0.numbers) me, length-append c.pass.inside.seat.me.0.numbers c.other.inside.seat.me.0.numbers)))

pub invariant_of-pass : goal.invariant_of-pass
invariant_of-pass g c =
    let v₁ = ap (λ p. p.claim) c.pass.view_is ∙ c.requires.ready.0.0 in
    let v₂ = ap (λ p. p.unmarked) c.pass.view_is ∙ c.requires.ready.0.1 in
    let w = c.other.inside.seat.me.0 in
    let me : c.join_seat.new.seat.me ≡ (joined c.pass.inside.seat.me.0 w, []) = c.join_seat.ensures.2 ∙ ap (λ l. (joined c.pass.inside.seat.me.0 w, l)) (c.pass.invariant.empty (v₁, v₂)) in
    joined_pass (step 0 0 0 0 none) c.pass.inside.seat.me.0 w c.join_seat.new.seat.me _ c.load.result _ me c.load.ensures.2 c.pass.invariant.live c.other.invariant.live (c.min-pass-inside.ensures ∙ ap₂ min c.pass.invariant.least_is c.other.invariant.least_is)

pub returns-clause-history : goal.returns-clause-history
returns-clause-history g c = λ all.
    let v₁ = ap (λ p. p.claim) c.pass.view_is ∙ c.requires.ready.0.0 in
    let v₂ = ap (λ p. p.unmarked) c.pass.view_is ∙ c.requires.ready.0.1 in
    let w = c.other.inside.seat.me.0 in
    let me : c.join_seat.new.seat.me ≡ (joined c.pass.inside.seat.me.0 w, []) = c.join_seat.ensures.2 ∙ ap (λ l. (joined c.pass.inside.seat.me.0 w, l)) (c.pass.invariant.empty (v₁, v₂)) in
    is_history _ (joined_window (step 0 0 0 0 none) c.pass.inside.seat.me.0 w c.join_seat.new.seat.me _ c.load.result _ me c.load.ensures.2 v₁ v₂ (ap (λ q. q.passes) (ap (λ p. p.gate) c.pass.view_is ∙ c.requires.gate.0)) all)

pub returns-clause-order : goal.returns-clause-order
returns-clause-order g c =
    let w = c.other.inside.seat.me.0 in
    subst (λ (q : List Draw × List Draw). IsMerge c.load.new.seat.me.0.draws q.0 q.1) (λ j. (ap (λ p. p.draws) c.pass.view_is j, ap (λ p. p.draws) c.other.view_is j))
    (merged_order c.load.new.seat.me.0.draws c.pass.inside.seat.me.0.draws w.draws c.pass.invariant.ascends (ap (λ (m : At g.row.T.Denot). m.0.draws) (c.load.ensures.2.0 ∙ c.join_seat.ensures.2)))

pub returns-clause-one : goal.returns-clause-one
returns-clause-one g c =
    let v₁ = ap (λ p. p.claim) c.pass.view_is ∙ c.requires.ready.0.0 in
    let v₂ = ap (λ p. p.unmarked) c.pass.view_is ∙ c.requires.ready.0.1 in
    let w = c.other.inside.seat.me.0 in
    let me : c.join_seat.new.seat.me ≡ (joined c.pass.inside.seat.me.0 w, []) = c.join_seat.ensures.2 ∙ ap (λ l. (joined c.pass.inside.seat.me.0 w, l)) (c.pass.invariant.empty (v₁, v₂)) in
    subst (λ (q : PassView g.row.T.Denot × PassView g.row.T.Denot). (q.0.closing ≡ None) ⊎ (q.1.closing ≡ None)) (λ j. (c.pass.view_is j, c.other.view_is j))
    (one_closing (step 0 0 0 0 none) c.pass.inside.seat.me.0 w c.join_seat.new.seat.me c.load.new.seat.me c.load.result me c.load.ensures.2 c.pass.invariant.made c.other.invariant.made)
