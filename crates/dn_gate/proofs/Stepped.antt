-- A pass after a draw, and after a mark.
use Rattle.std.proofs.Common.{◌≡◌, ℕ, ◌+◌, ◌-◌, ◌<◌, [], ◌∷◌, ◌++◌, length, sym, ap, subst, ◌∙◌, arith, Option, Some, None}
use mathlib.Core.Logic.{dite}
use native.Mathlib.Decide.{dec_le}
use mathlib.Core.Option.{none}
use Rattle.atomic_table.specs.Table.{Step, step, rest}
use Rattle.atomic_table.specs.Seated.{TableId}
use Rattle.dn_counts.specs.Numbers.{least}
use Rattle.dn_gate.specs.Rule.{At, closed, drew_in, drew_late, marked, has_closing, Ascends, Draws, Marks}
use Rattle.dn_gate.specs.Pass.{PassView, pass_view, included, IsPass}

module _ {T : Type 0} where
  pub drew_pass : (st : Step (Option T)) (m n : At T) (i found number : ℕ) → IsPass m number → m.0.claim ≡ Some i → m.1 ≡ (i, None) ∷ [] → Draws st m found n → IsPass n number
  drew_pass st m n i found number p claim out told = dite (dec_le closed found)
      (λ le.
      let is : n ≡ (drew_late m.0 i found, rest m.1) = (told.0 i claim).1 le in
      record { live = subst (λ (x : At T). 0 < length x.0.numbers) (sym is) p.live; least_is = p.least_is ∙ sym (ap (λ (x : At T). least x.0.numbers) is); empty = λ _. ap (λ (x : At T). x.1) is ∙ ap rest out; ascends = told.1; made = ap (λ (x : At T). x.0.closings) is ∙ p.made ∙ sym (ap (λ (x : At T). has_closing x.0) is) })
      (λ gt.
      let is : n ≡ (drew_in m.0 i found, m.1) = ((told.0 i claim).0 (omega arith)).1 in
      record { live = subst (λ (x : At T). 0 < length x.0.numbers) (sym is) p.live; least_is = p.least_is ∙ sym (ap (λ (x : At T). least x.0.numbers) is); empty = λ idle. absurd (pending (sym (ap (λ (x : At T). x.0.unmarked) is) ∙ idle.1)); ascends = told.1; made = ap (λ (x : At T). x.0.closings) is ∙ p.made ∙ sym (ap (λ (x : At T). has_closing x.0) is) })
    where
      pending : Some i ≡ None → ⊥
      pending e = cc

  pub marked_me : (n : ℕ) (m q : At T) (i r : ℕ) (x : T) → m.1 ≡ (i, Some x) ∷ [] → Marks (step n (i + 1) 2 0 none) m r q → q ≡ (marked m.0 i x, [])
  marked_me n m q i r x out told =
      let back : i + 1 - 1 ≡ i = omega arith in
      told x (out ∙ ap (λ (c : ℕ). (c, Some x) ∷ []) (sym back)) ∙ (λ h. (marked m.0 (back h) x, []))

  pub marked_pass : (m q : At T) (i number : ℕ) (x : T) → IsPass m number → q ≡ (marked m.0 i x, []) → IsPass q number
  marked_pass m q i number x p is = record {
    live = subst (λ (y : At T). 0 < length y.0.numbers) (sym is) p.live;
    least_is = p.least_is ∙ sym (ap (λ (y : At T). least y.0.numbers) is);
    empty = λ _. ap (λ (y : At T). y.1) is;
    ascends = subst (λ (y : At T). Ascends y.0.draws) (sym is) p.ascends;
    made = ap (λ (y : At T). y.0.closings) is ∙ p.made ∙ sym (ap (λ (y : At T). has_closing y.0) is);
  }

  pub marked_view : (t t' : TableId) (s s' : ℕ) (m q : At T) (p : PassView T) (i : ℕ) (x : T) → pass_view t s m ≡ p → t' ≡ t → s' ≡ s → q ≡ (marked m.0 i x, [])
      → pass_view t' s' q ≡ record p { unmarked = None; held = []; values = p.values ++ (i, x) ∷ [] }
  marked_view t t' s s' m q p i x view_is table seat is =
      (λ j. pass_view (table j) (seat j) (is j)) ∙ ap (λ (y : PassView T). record y { unmarked = None; held = []; values = y.values ++ (i, x) ∷ [] }) view_is

  pub drew_view : (t t' : TableId) (s s' : ℕ) (m q : At T) (p : PassView T) (i found place : ℕ) → pass_view t s m ≡ p → t' ≡ t → s' ≡ s → q ≡ (drew_in m.0 i found, m.1) → found ≡ place
      → pass_view t' s' q ≡ record p { claim = None; unmarked = Some i; draws = p.draws ++ included place i ∷ [] }
  drew_view t t' s s' m q p i found place view_is table seat is same =
      (λ j. pass_view (table j) (seat j) (is j)) ∙ ap (λ (y : PassView T). record y { claim = None; unmarked = Some i; draws = y.draws ++ included found i ∷ [] }) view_is
      ∙ ap (λ (n : ℕ). record p { claim = None; unmarked = Some i; draws = p.draws ++ included n i ∷ [] }) same
