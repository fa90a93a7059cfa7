-- Numbered things in the order of their numbers, and two lists made one.
use Rattle.std.specs.Prelude.{◌≡◌, ◌⊎◌, ℕ, zero, suc, List, [], ◌∷◌, ◌++◌, ◌==◌}
use Rattle.std.specs.List.{filter}

module _ {A : Type 0} where
  -- those with the number n, in their order
  abbrev pub with_number : ℕ → List (ℕ × A) → List (ℕ × A)
  with_number n xs = filter (λ p. p.0 == n) xs

  -- those with a number below n: by number, and those with one number in their order
  abbrev pub in_order : ℕ → List (ℕ × A) → List (ℕ × A)
  in_order zero xs = []
  in_order (suc n) xs = in_order n xs ++ with_number n xs

  -- zs has each element of xs and of ys once, and keeps the order of both
  abbrev pub IsMerge : List A → List A → List A → Type 0
  IsMerge [] xs ys = (xs ≡ []) × (ys ≡ [])
  IsMerge (z ∷ zs) xs ys = ((xs' : List A) × (xs ≡ z ∷ xs') × IsMerge zs xs' ys) ⊎ ((ys' : List A) × (ys ≡ z ∷ ys') × IsMerge zs xs ys')
