-- The first element that passes a test.
use Rattle.std.proofs.Common.{◌≡◌, ℕ, zero, suc, ◌+◌, ◌<◌, Bool, true, false, List, [], ◌∷◌, length, take, get_or, cond, Some, None, refl, ap, subst, ◌∙◌, arith}
use Rattle.std.specs.Prelude.{Option, find}

module _ {X : Type 0} (p : X → Bool) where
  by : (b : Bool) (x : X) (o : Option X) → cond b (Some x) o ≡ None → (b ≡ false) × (o ≡ None)
  by true x o e = cc
  by false x o e = (refl, e)

  -- the first that passes is found, where none before it does
  pub find_first : (xs : List X) (i : ℕ) (d : X) → i < length xs → find p (take i xs) ≡ None → p (get_or xs i d) ≡ true → find p xs ≡ Some (get_or xs i d)
  find_first [] i d lt none is = absurd (omega arith)
  find_first (x ∷ xs) zero d lt none is = ap (λ b. cond b (Some x) (find p xs)) is
  find_first (x ∷ xs) (suc i) d lt none is =
      let parts = by (p x) x (find p (take i xs)) none in
      ap (λ b. cond b (Some x) (find p xs)) parts.0 ∙ find_first xs i d (omega arith) parts.1 is

  -- none more passes
  pub find_none-more : (xs : List X) (i : ℕ) (d : X) → i < length xs → find p (take i xs) ≡ None → p (get_or xs i d) ≡ false → find p (take (i + 1) xs) ≡ None
  find_none-more [] i d lt none isnt = absurd (omega arith)
  find_none-more (x ∷ xs) zero d lt none isnt = ap (λ b. cond b (Some x) None) isnt
  find_none-more (x ∷ xs) (suc i) d lt none isnt =
      let parts = by (p x) x (find p (take i xs)) none in
      let up : suc i + 1 ≡ suc (i + 1) = omega arith in
      ap (λ n. find p (take n (x ∷ xs))) up ∙ ap (λ b. cond b (Some x) (find p (take (i + 1) xs))) parts.0 ∙ find_none-more xs i d (omega arith) parts.1 isnt

  one_so : (b : Bool) (x y : X) (o : Option X) → (b ≡ true → p x ≡ true) → (o ≡ Some y → p y ≡ true) → cond b (Some x) o ≡ Some y → p y ≡ true
  one_so true x y o f g e = let same : x ≡ y = cc in subst (λ z. p z ≡ true) same (f refl)
  one_so false x y o f g e = g e

  -- what is found passes
  pub find_passes : (xs : List X) (y : X) → find p xs ≡ Some y → p y ≡ true
  find_passes [] y e = cc
  find_passes (x ∷ xs) y e = one_so (p x) x y (find p xs) (λ h. h) (λ h. find_passes xs y h) e
