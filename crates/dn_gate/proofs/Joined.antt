-- A pass after a join.
use Rattle.std.proofs.Common.{◌≡◌, ℕ, ◌+◌, ◌<◌, ◌≤◌, ◌⊎◌, inl, inr, min, [], length, sym, refl, ap, subst, ◌∙◌, arith, cond, is_some, Option, Some, None, length-append}
use Rattle.atomic_table.specs.Table.{Step}
use Rattle.dn_counts.specs.Numbers.{least, first_some}
use Rattle.dn_gate.specs.Rule.{At, joined, has_closing, Ascends, IsSettled, Settles}
use Rattle.dn_gate.specs.Pass.{IsPass}
use Rattle.dn_gate.specs.declared.view.View.{View}
use Rattle.dn_counts.proofs.Least.{least-append}
use Rattle.dn_gate.proofs.Counted.{plain, settled_plain}

module _ {T : Type 0} where
  pub joined_pass : (st : Step (Option T)) (v w : View T) (m n : At T) (r number : ℕ) → m ≡ (joined v w, []) → Settles st m r n → 0 < length v.numbers → 0 < length w.numbers → number ≡ min (least v.numbers) (least w.numbers) → IsPass n number
  joined_pass st v w m n r number e told lv lw num =
      let is : n ≡ (joined v w, []) = told.0 ∙ e in
      record {
        live = omega (arith, ap (λ (x : At T). length x.0.numbers) is, length-append v.numbers w.numbers);
        least_is = num ∙ sym (least-append v.numbers w.numbers lv lw) ∙ sym (ap (λ (x : At T). least x.0.numbers) is);
        empty = λ _. ap (λ (x : At T). x.1) is;
        ascends = subst (λ (x : At T). Ascends x.0.draws) (sym told.0) told.1;
        made = subst (λ (x : At T). x.0.closings ≡ has_closing x.0) (sym told.0) told.6;
      }

  pub joined_window : (st : Step (Option T)) (v w : View T) (m n : At T) (r passes : ℕ) → m ≡ (joined v w, []) → Settles st m r n → v.claim ≡ None → v.unmarked ≡ None → v.passes ≡ passes → length n.0.numbers ≡ passes → IsSettled (plain n.0)
  joined_window st v w m n r passes e told claim unmarked here all =
      subst (λ (x : At T). IsSettled (plain x.0)) (sym told.0)
      (settled_plain _ (told.2 (sym (ap (λ (x : At T). length x.0.numbers) told.0) ∙ all ∙ sym here ∙ sym (ap (λ (x : At T). x.0.passes) e)) (ap (λ (x : At T). x.0.claim) e ∙ claim, ap (λ (x : At T). x.0.unmarked) e ∙ unmarked)))

  -- not both of two passes have a closing
  pub one_closing : (st : Step (Option T)) (v w : View T) (m n : At T) (r : ℕ) → m ≡ (joined v w, []) → Settles st m r n → v.closings ≡ has_closing v → w.closings ≡ has_closing w → (v.closing ≡ None) ⊎ (w.closing ≡ None)
  one_closing st v w m n r e told a b = by v.closing w.closing refl refl
    where
      most : (o : Option ℕ) → cond {A = ℕ} (is_some o) 1 0 ≤ 1
      most None = omega arith
      most (Some x) = omega arith

      sum : v.closings + w.closings ≡ has_closing (joined v w)
      sum = sym (ap (λ (x : At T). x.0.closings) e) ∙ told.6 ∙ ap (λ (x : At T). has_closing x.0) e

      by : (p q : Option ℕ) → v.closing ≡ p → w.closing ≡ q → (v.closing ≡ None) ⊎ (w.closing ≡ None)
      by None q x y = inl x
      by (Some c) None x y = inr y
      by (Some c) (Some d) x y = absurd (omega (arith, sum, a, b, most (first_some v.closing w.closing), ap (λ o. cond {A = ℕ} (is_some o) 1 0) x, ap (λ o. cond {A = ℕ} (is_some o) 1 0) y))
