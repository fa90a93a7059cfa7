-- Lists with one element more in their middle, and lists of what a function gives.
use Rattle.std.proofs.Common.{◌≡◌, ℕ, zero, suc, ◌+◌, ◌-◌, ◌<◌, ◌≤◌, List, [], ◌∷◌, ◌++◌, length, map, take, drop, get_or, refl, sym, ap, subst, ◌∙◌, arith, inl, inr}
use Rattle.std.specs.Prelude.{All, Contains, insert, ◌⊎◌}
use Rattle.std.specs.List.Sorted.{IsStrictlyIncreasing, IsNonDecreasingBy}
use Rattle.std.proofs.lemmas.Bool.{cases_lt}
use Rattle.std.proofs.lemmas.List.{get_or-map, length-map, get_or_default, map-append, take-map, drop-map, take-append-drop}
use Rattle.std.proofs.lemmas.List.Edits.{length-insert, get_or-insert_below, get_or-insert_at, get_or-insert_above}
use Rattle.std.proofs.lemmas.List.Elements.{All-append, All-cons, All-take, All-drop, Contains-append_left, Contains-append_right, Contains-append_cases}
use Rattle.std.proofs.lemmas.List.Kept.{AllPairs-from_increasing}

module _ {X : Type 0} (n : X → ℕ) (xs : List X) (up : IsStrictlyIncreasing (map n xs)) where
  -- a later one has a greater number
  pub rises : (i j : ℕ) (d : X) → i < j → j < length xs → n (get_or xs i d) < n (get_or xs j d)
  rises i j d lt within =
      let h = AllPairs-from_increasing (map n xs) up i j 0 lt (rw (length-map xs n) within) in
      rw (get_or-map n xs i d 0 (omega arith), get_or-map n xs j d 0 within) at h

  pub IsNonDecreasingBy-increasing : IsNonDecreasingBy n xs
  IsNonDecreasingBy-increasing i j d le within =
      elim (cases_lt i j) [
        | inl lt ↦ let h = rises i j d lt within in omega arith
        | inr ge ↦ let same : i ≡ j = omega arith in omega (arith, ap (λ k. n (get_or xs k d)) same)
      ]

  -- what has one number is one
  pub one_of_number : (x y : X) → Contains xs x → Contains xs y → n x ≡ n y → x ≡ y
  one_of_number x y a b e =
      let y_at : get_or xs b.0 x ≡ y = get_or_default xs b.0 x y b.1 ∙ b.2 in
      elim (cases_lt a.0 b.0) [
        | inl lt ↦ let h = rises a.0 b.0 x lt b.1 in absurd (omega (arith, ap n a.2, ap n y_at, e, h))
        | inr le ↦ elim (cases_lt b.0 a.0) [
          | inl lt ↦ let h = rises b.0 a.0 x lt a.1 in absurd (omega (arith, ap n a.2, ap n y_at, e, h))
          | inr ge ↦ let same : a.0 ≡ b.0 = omega arith in sym a.2 ∙ ap (λ k. get_or xs k x) same ∙ y_at
        ]
      ]

module _ {X Y : Type 0} (f : X → Y) where
  pub Contains-map : (xs : List X) (x : X) → Contains xs x → Contains (map f xs) (f x)
  Contains-map xs x a = (a.0, rw (length-map xs f) a.1, get_or-map f xs a.0 x (f x) a.1 ∙ ap f a.2)

  from_map : (xs : List X) (y : Y) (k : ℕ) → k < length xs → get_or (map f xs) k y ≡ y → (x : X) × Contains xs x × (f x ≡ y)
  from_map [] y k lt e = absurd (omega arith)
  from_map (x ∷ xs) y zero lt e = (x, (0, lt, refl), e)
  from_map (x ∷ xs) y (suc k) lt e =
      let r = from_map xs y k (omega arith) e in (r.0, (suc r.1.0, omega (arith, r.1.1), r.1.2), r.2)

  pub Contains-from_map : (xs : List X) (y : Y) → Contains (map f xs) y → (x : X) × Contains xs x × (f x ≡ y)
  Contains-from_map xs y a = from_map xs y a.0 (rw (length-map xs f) at a.1) a.2

  pub map-insert : (xs : List X) (i : ℕ) (x : X) → map f (insert xs i x) ≡ insert (map f xs) i (f x)
  map-insert xs i x = map-append f (take i xs) (x ∷ drop i xs) ∙ (λ j. sym (take-map f i xs) j ++ f x ∷ sym (drop-map f i xs) j)

module _ {X : Type 0} (xs : List X) (i : ℕ) (y : X) where
  whole : take i xs ++ drop i xs ≡ xs
  whole = take-append-drop i xs

  contains_cons : (zs : List X) (x : X) → Contains zs x → Contains (y ∷ zs) x
  contains_cons zs x a = (suc a.0, omega (arith, a.1), a.2)

  cons_cases : (zs : List X) (x : X) (k : ℕ) → k < length (y ∷ zs) → get_or (y ∷ zs) k x ≡ x → Contains zs x ⊎ (y ≡ x)
  cons_cases zs x zero lt e = inr e
  cons_cases zs x (suc k) lt e = inl (k, omega arith, e)

  pub All-insert : (P : X → Type 0) → All P xs → P y → All P (insert xs i y)
  All-insert P all here = All-append P (take i xs) (y ∷ drop i xs) (All-take P i xs all) (All-cons P y (drop i xs) here (All-drop P i xs all))

  pub Contains-insert : (x : X) → Contains xs x → Contains (insert xs i y) x
  Contains-insert x a =
      elim (Contains-append_cases (take i xs) (drop i xs) x (subst (λ l. Contains l x) (sym whole) a)) [
        | inl left ↦ Contains-append_left (take i xs) (y ∷ drop i xs) x left
        | inr right ↦ Contains-append_right (take i xs) (y ∷ drop i xs) x (contains_cons (drop i xs) x right)
      ]

  pub Contains-insert_itself : Contains (insert xs i y) y
  Contains-insert_itself = Contains-append_right (take i xs) (y ∷ drop i xs) y (0, omega arith, refl)

  pub Contains-insert_cases : (x : X) → Contains (insert xs i y) x → Contains xs x ⊎ (y ≡ x)
  Contains-insert_cases x a =
      elim (Contains-append_cases (take i xs) (y ∷ drop i xs) x a) [
        | inl left ↦ inl (subst (λ l. Contains l x) whole (Contains-append_left (take i xs) (drop i xs) x left))
        | inr right ↦ elim (cons_cases (drop i xs) x right.0 right.1 right.2) [
          | inl later ↦ inl (subst (λ l. Contains l x) whole (Contains-append_right (take i xs) (drop i xs) x later))
          | inr here ↦ inr here
        ]
      ]

-- a number that is put in its place
module _ (ns : List ℕ) (at r : ℕ) (up : IsStrictlyIncreasing ns) (fits : at ≤ length ns)
    (below : (k : ℕ) → k < at → get_or ns k 0 < r) (above : (k : ℕ) → at ≤ k → k < length ns → r < get_or ns k 0) where
  above_both : (j : ℕ) → at ≤ j → j + 1 < length ns → get_or (insert ns at r) (j + 1) 0 < get_or (insert ns at r) (j + 1 + 1) 0
  above_both j le within =
      omega (arith, get_or-insert_above ns at r 0 j le fits, get_or-insert_above ns at r 0 (j + 1) (omega arith) fits, up j within)

  pub IsStrictlyIncreasing-insert : IsStrictlyIncreasing (insert ns at r)
  IsStrictlyIncreasing-insert k within =
      let long = length-insert ns at r fits in
      elim (cases_lt (k + 1) at) [
        | inl lt ↦ omega (arith, get_or-insert_below ns at r 0 k (omega arith) fits, get_or-insert_below ns at r 0 (k + 1) lt fits, up k (omega arith))
        | inr ge ↦ elim (cases_lt k at) [
          | inl lt ↦ let next : at ≡ k + 1 = omega arith in
              omega (arith, get_or-insert_below ns at r 0 k lt fits, get_or-insert_at ns at r 0 fits, ap (λ x. get_or (insert ns at r) x 0) next, below k lt)
          | inr le ↦ elim (cases_lt at k) [
            | inl lt ↦ let step : k - 1 + 1 ≡ k = omega arith in
                subst (λ x. get_or (insert ns at r) x 0 < get_or (insert ns at r) (x + 1) 0) step (above_both (k - 1) (omega arith) (omega arith))
            | inr ge' ↦ let same : at ≡ k = omega arith in
                omega (arith, get_or-insert_at ns at r 0 fits, ap (λ x. get_or (insert ns at r) x 0) same, get_or-insert_above ns at r 0 k (omega arith) fits, above k (omega arith) (omega arith))
          ]
        ]
      ]
