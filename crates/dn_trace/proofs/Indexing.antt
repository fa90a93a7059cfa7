-- The first place of each number in a list, and whether what has one number is one.
use Rattle.std.proofs.Common.{◌≡◌, ℕ, ◌+◌, ◌<◌, List, length, get_or, refl, sym, ap, ◌∙◌, arith, inl, inr, Option, Some, None}
use Rattle.std.proofs.lemmas.Bool.{cases_lt, cases_eq}
use Rattle.std.proofs.lemmas.Option.{same_Some, none-some}
use Rattle.std.proofs.lemmas.List.{get_or_default}

module _ {X Y : Type 0} (f : X → Option ℕ) (g : X → Y) (xs : List X) where
  -- before place i: the map has of each number its first place, and all that have one number are as the first is
  pub record Indexed (m : ℕ → Option ℕ) (i : ℕ) : Type 0 where
    pub none : (q : ℕ) → m q ≡ None → (x : ℕ) (d : X) → x < i → f (get_or xs x d) ≡ Some q → ⊥
    pub below : (q p : ℕ) → m q ≡ Some p → p < i
    pub numbered : (q p : ℕ) → m q ≡ Some p → (d : X) → f (get_or xs p d) ≡ Some q
    pub same : (q p : ℕ) → m q ≡ Some p → (x : ℕ) (d : X) → x < i → f (get_or xs x d) ≡ Some q → g (get_or xs x d) ≡ g (get_or xs p d)

  pub indexed_none : (m : ℕ → Option ℕ) → ((q : ℕ) → m q ≡ None) → Indexed m 0
  indexed_none m empty = record {
    none = λ q e x d lt. absurd (omega arith);
    below = λ q p e. absurd (none-some p (sym (empty q) ∙ e));
    numbered = λ q p e. absurd (none-some p (sym (empty q) ∙ e));
    same = λ q p e. absurd (none-some p (sym (empty q) ∙ e));
  }

  module _ (m : ℕ → Option ℕ) (i : ℕ) (lt : i < length xs) (v : X) (at : get_or xs i v ≡ v) (old : Indexed m i) where
    here : (d : X) → get_or xs i d ≡ v
    here d = get_or_default xs i d v lt ∙ at

    -- what is before i + 1 is before i, or at i
    earlier : (x : ℕ) → x < i + 1 → (x ≡ i → ⊥) → x < i
    earlier x le ne = elim (cases_lt x i) [ inl less ↦ less | inr ge ↦ absurd (ne (omega arith)) ]

    pub indexed_skip : f v ≡ None → Indexed m (i + 1)
    indexed_skip e = record {
      none = λ q no_q x d le is. elim (cases_eq x i) [
        | inl same ↦ none-some q (sym e ∙ ap f (sym (ap (λ y. get_or xs y d) same ∙ here d)) ∙ is)
        | inr ne ↦ old.none q no_q x d (earlier x le ne) is
      ];
      below = λ q p has. let h = old.below q p has in omega arith;
      numbered = old.numbered;
      same = λ q p has x d le is. elim (cases_eq x i) [
        | inl same ↦ absurd (none-some q (sym e ∙ ap f (sym (ap (λ y. get_or xs y d) same ∙ here d)) ∙ is))
        | inr ne ↦ old.same q p has x d (earlier x le ne) is
      ];
    }

    pub indexed_again : (q p : ℕ) → f v ≡ Some q → m q ≡ Some p → g (get_or xs p v) ≡ g v → Indexed m (i + 1)
    indexed_again q p e has one = record {
      none = λ r no_r x d le is. elim (cases_eq x i) [
        | inl same ↦
            let q_is_r : q ≡ r = same_Some q r (sym e ∙ ap f (sym (ap (λ y. get_or xs y d) same ∙ here d)) ∙ is) in
            none-some p (sym no_r ∙ ap m (sym q_is_r) ∙ has)
        | inr ne ↦ old.none r no_r x d (earlier x le ne) is
      ];
      below = λ r s has'. let h = old.below r s has' in omega arith;
      numbered = old.numbered;
      same = λ r s has' x d le is. elim (cases_eq x i) [
        | inl same ↦
            let x_is : get_or xs x d ≡ v = ap (λ y. get_or xs y d) same ∙ here d in
            let q_is_r : q ≡ r = same_Some q r (sym e ∙ ap f (sym x_is) ∙ is) in
            let p_is_s : p ≡ s = same_Some p s (sym has ∙ ap m q_is_r ∙ has') in
            let within : p < length xs = let h = old.below q p has in omega arith in
            ap g x_is ∙ sym one ∙ ap g (get_or_default xs p v d within) ∙ ap (λ y. g (get_or xs y d)) p_is_s
        | inr ne ↦ old.same r s has' x d (earlier x le ne) is
      ];
    }

    pub indexed_fresh : (n : ℕ → Option ℕ) (q : ℕ) → f v ≡ Some q → m q ≡ None → n q ≡ Some i → ((r : ℕ) → (r ≡ q → ⊥) → n r ≡ m r) → Indexed n (i + 1)
    indexed_fresh n q e fresh new others = record {
      none = λ r no_r x d le is. elim (cases_eq r q) [
        | inl same ↦ none-some i (sym no_r ∙ ap n same ∙ new)
        | inr ne ↦ elim (cases_eq x i) [
          | inl same ↦ ne (same_Some r q (sym is ∙ ap f (ap (λ y. get_or xs y d) same ∙ here d) ∙ e))
          | inr ne' ↦ old.none r (sym (others r ne) ∙ no_r) x d (earlier x le ne') is
        ]
      ];
      below = λ r p has. elim (cases_eq r q) [
        | inl same ↦ let p_is : p ≡ i = same_Some p i (sym has ∙ ap n same ∙ new) in omega arith
        | inr ne ↦ let h = old.below r p (sym (others r ne) ∙ has) in omega arith
      ];
      numbered = λ r p has d. elim (cases_eq r q) [
        | inl same ↦ let p_is : p ≡ i = same_Some p i (sym has ∙ ap n same ∙ new) in
            ap f (ap (λ y. get_or xs y d) p_is ∙ here d) ∙ e ∙ ap Some (sym same)
        | inr ne ↦ old.numbered r p (sym (others r ne) ∙ has) d
      ];
      same = λ r p has x d le is. elim (cases_eq r q) [
        | inl same ↦
            let p_is : p ≡ i = same_Some p i (sym has ∙ ap n same ∙ new) in
            elim (cases_eq x i) [
              | inl x_is ↦ ap (λ y. g (get_or xs y d)) (x_is ∙ sym p_is)
              | inr ne' ↦ absurd (old.none q fresh x d (earlier x le ne') (is ∙ ap Some same))
            ]
        | inr ne ↦ elim (cases_eq x i) [
          | inl x_is ↦ absurd (ne (same_Some r q (sym is ∙ ap f (ap (λ y. get_or xs y d) x_is ∙ here d) ∙ e)))
          | inr ne' ↦ old.same r p (sym (others r ne) ∙ has) x d (earlier x le ne') is
        ]
      ];
    }

  -- at the end: what has one number is one
  pub indexed_all : (m : ℕ → Option ℕ) → Indexed m (length xs) → (q x y : ℕ) (d : X) → x < length xs → y < length xs
      → f (get_or xs x d) ≡ Some q → f (get_or xs y d) ≡ Some q → g (get_or xs x d) ≡ g (get_or xs y d)
  indexed_all m all q x y d lx ly ex ey = by (m q) refl
    where
      by : (o : Option ℕ) → m q ≡ o → g (get_or xs x d) ≡ g (get_or xs y d)
      by None e = absurd (all.none q e x d lx ex)
      by (Some p) e = all.same q p e x d lx ex ∙ sym (all.same q p e y d ly ey)
