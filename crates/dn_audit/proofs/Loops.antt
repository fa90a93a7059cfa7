-- Loops that ask the same of each element, and end at the first for which it isn't so.
use Rattle.std.proofs.Common.{◌≡◌, ℕ, ◌+◌, ◌<◌, ◌≤◌, List, [], Bool, true, false, length, get_or, take, ap, sym, subst, ◌∙◌, below_more, arith}
use Rattle.std.specs.Prelude.{All, IsTrue, ◌↔◌}
use Rattle.std.proofs.lemmas.List.{take_all, get_or_default}
use Rattle.std.proofs.lemmas.List.Elements.{All-more, All-get_or}

pub both_ways : {P : Type 0} → (P → ⊥) → IsTrue false ↔ P
both_ways never = (λ h. absurd (grind (arith, h)), λ p. absurd (never p))

pub refuted : {P : Type 0} (b : Bool) → IsTrue b ↔ P → b ≡ false → P → ⊥
refuted b h is p = let yes = h.1 p in grind (arith, is, yes)

pub granted : {P : Type 0} (b : Bool) → IsTrue b ↔ P → b ≡ true → P
granted b h is = h.0 is

module _ {A : Type 0} (P : A → Type 0) (xs ys : List A) (same : ys ≡ xs) (i : ℕ) (x : A) (lt : i < length ys) (is : x ≡ get_or ys i x) where
  pub all_more : All P (take i xs) → P x → All P (take (i + 1) xs)
  all_more before now = subst (λ l. All P (take (i + 1) l)) same (All-more P ys i x lt (subst (λ l. All P (take i l)) (sym same) before) (subst P is now))

  pub at_item : All P xs → P x
  at_item all = subst P (sym is) (All-get_or P ys i x lt (subst (All P) (sym same) all))

pub all_end : {A : Type 0} (P : A → Type 0) (xs ys : List A) (same : ys ≡ xs) (i : ℕ) → length ys ≤ i → All P (take i xs) → All P xs
all_end P xs ys same i le all = subst (All P) (take_all i xs (subst (λ (l : List _). length l ≤ i) same le)) all

-- the same, of what goes by its place
module _ (P : ℕ → List ℕ → Type 0) (xs ys : List (List ℕ)) (same : ys ≡ xs) (i n : ℕ) (x y : List ℕ) (place : n ≡ i) (item : y ≡ x)
    (lt : i < length ys) (is : x ≡ get_or ys i x) where
  here : P i (get_or xs i []) → P n y
  here h =
      let at : get_or xs i [] ≡ y = ap (λ l. get_or l i []) (sym same) ∙ get_or_default ys i [] x lt ∙ sym is ∙ sym item in
      subst (λ k. P k y) (sym place) (subst (P i) at h)

  back : P n y → P i (get_or xs i [])
  back h =
      let at : get_or xs i [] ≡ y = ap (λ l. get_or l i []) (sym same) ∙ get_or_default ys i [] x lt ∙ sym is ∙ sym item in
      subst (P i) (sym at) (subst (λ k. P k y) place h)

  pub at_place : ((j : ℕ) → j < length xs → P j (get_or xs j [])) → P n y
  at_place all = here (all i (subst (λ (l : List (List ℕ)). i < length l) same lt))

  pub place_more : ((j : ℕ) → j < i → P j (get_or xs j [])) → P n y → (j : ℕ) → j < i + 1 → P j (get_or xs j [])
  place_more before now = below_more (λ j. P j (get_or xs j [])) i before (back now)
