-- A list is parted by a number that each element has.
use Rattle.std.proofs.Common.{◌≡◌, ℕ, zero, suc, ◌<◌, Bool, true, false, cond, eqb, ltb, inl, inr, List, [], ◌∷◌, ◌++◌, refl, ap, sym, subst, ◌∙◌, arith, add-one}
use Rattle.std.specs.Prelude.{◌&&◌, ◌||◌}
use Rattle.std.specs.List.{All, Contains, filter, flat_map, range_with_len}
use Rattle.std.specs.List.Sorted.{IsPermutation}
use Rattle.std.proofs.lemmas.Bool.{cond_both, cond-true, lt-ltb, eqb-true, eq-eqb}
use Rattle.std.proofs.lemmas.Bool.Decides.{nat_tests}
use Rattle.std.proofs.lemmas.List.Elements.{All-head, All-tail, All-filter, All-contains_itself, filter_passes}
use Rattle.std.proofs.lemmas.List.Sorted.{IsPermutation-refl, IsPermutation-cons, IsPermutation-trans, IsPermutation-middle, IsPermutation-append}
use Rattle.dn_roster.proofs.DealingLemmas.{flat_map-more}
use Rattle.dn_cert.proofs.Orders.{here, later, first_or_later, nothing, All-from_contains}

-- ---- what passes a test

filter-all : {A : Type 0} (p : A → Bool) (xs : List A) → All (λ x. p x ≡ true) xs → filter p xs ≡ xs
filter-all p [] all = refl
filter-all p (x ∷ xs) all =
    cond-true (p x) (x ∷ filter p xs) (filter p xs) (All-head (λ y. p y ≡ true) x xs all) ∙ ap (λ ys. x ∷ ys) (filter-all p xs (All-tail (λ y. p y ≡ true) x xs all))

pub filter-keeps : {A : Type 0} (p : A → Bool) (xs : List A) (x : A) → p x ≡ true → Contains xs x → Contains (filter p xs) x
filter-keeps p [] x passes h = absurd (nothing x h)
filter-keeps p (y ∷ ys) x passes h =
    elim (first_or_later y ys x h) [
      | inl first ↦
          let found : Contains (cond (p x) (x ∷ filter p ys) (filter p ys)) x = rw passes (here x (filter p ys)) in
          subst (λ z. Contains (cond (p z) (z ∷ filter p ys) (filter p ys)) x) (sym first) found
      | inr behind ↦
          let rest = filter-keeps p ys x passes behind in
          cond_both (p y) (y ∷ filter p ys) (filter p ys) (λ zs. Contains zs x) (λ _. later y (filter p ys) x rest) (λ _. rest)
    ]

-- ---- one element more, by which of two tests it passes

parted : {A : Type 0} (a b c : Bool) (x : A) (xs ys zs : List A) → IsPermutation (xs ++ ys) zs → c ≡ (a || b) → (a && b) ≡ false
    → IsPermutation (cond a (x ∷ xs) xs ++ cond b (x ∷ ys) ys) (cond c (x ∷ zs) zs)
parted true true c x xs ys zs p either apart = absurd cc
parted true false c x xs ys zs p either apart = rw either (IsPermutation-cons x (xs ++ ys) zs p)
parted false true c x xs ys zs p either apart =
    rw either (IsPermutation-trans (xs ++ x ∷ ys) (x ∷ (xs ++ ys)) (x ∷ zs) (IsPermutation-middle xs x ys) (IsPermutation-cons x (xs ++ ys) zs p))
parted false false c x xs ys zs p either apart = rw either p

module _ {A : Type 0} (number : A → ℕ) where
  is_either : (n m : ℕ) → ltb n (suc m) ≡ (ltb n m || eqb n m)
  is_either n m = grind (arith, nat_tests)

  not_both : (n m : ℕ) → (ltb n m && eqb n m) ≡ false
  not_both n m = grind (arith, nat_tests)

  more : (m : ℕ) (xs : List A) → IsPermutation (filter (λ x. ltb (number x) m) xs ++ filter (λ x. eqb (number x) m) xs) (filter (λ x. ltb (number x) (suc m)) xs)
  more m [] = IsPermutation-refl []
  more m (x ∷ xs) =
      parted (ltb (number x) m) (eqb (number x) m) (ltb (number x) (suc m)) x (filter (λ y. ltb (number y) m) xs) (filter (λ y. eqb (number y) m) xs) (filter (λ y. ltb (number y) (suc m)) xs)
      (more m xs) (is_either (number x) m) (not_both (number x) m)

  none_below : (xs : List A) → filter (λ x. ltb (number x) 0) xs ≡ []
  none_below [] = refl
  none_below (x ∷ xs) = let past : ltb (number x) 0 ≡ false = grind (arith, nat_tests) in rw past (none_below xs)

  parts_below : (xs : List A) (m : ℕ) → IsPermutation (flat_map (λ j. filter (λ x. eqb (number x) j) xs) (range_with_len 0 m)) (filter (λ x. ltb (number x) m) xs)
  parts_below xs zero = rw (none_below xs) (IsPermutation-refl [])
  parts_below xs (suc m) =
      let part : ℕ → List A = λ j. filter (λ x. eqb (number x) j) xs in
      let low = filter (λ x. ltb (number x) m) xs in
      let grown : flat_map part (range_with_len 0 (suc m)) ≡ flat_map part (range_with_len 0 m) ++ part m = rw add-one at (flat_map-more part m) in
      let both : IsPermutation (flat_map part (range_with_len 0 m) ++ part m) (low ++ part m) =
      IsPermutation-append (flat_map part (range_with_len 0 m)) low (part m) (part m) (parts_below xs m) (IsPermutation-refl (part m)) in
      subst (λ ys. IsPermutation ys (filter (λ x. ltb (number x) (suc m)) xs)) (sym grown)
      (IsPermutation-trans (flat_map part (range_with_len 0 m) ++ part m) (low ++ part m) (filter (λ x. ltb (number x) (suc m)) xs) both (more m xs))

  -- the parts of the numbers below m are the list
  pub parts_whole : (xs : List A) (m : ℕ) → All (λ x. number x < m) xs → IsPermutation (flat_map (λ j. filter (λ x. eqb (number x) j) xs) (range_with_len 0 m)) xs
  parts_whole xs m all =
      let passes : All (λ x. ltb (number x) m ≡ true) xs = λ k d lt. lt-ltb _ _ (all k d lt) in
      subst (λ ys. IsPermutation (flat_map (λ j. filter (λ x. eqb (number x) j) xs) (range_with_len 0 m)) ys) (filter-all (λ x. ltb (number x) m) xs passes) (parts_below xs m)

  pub parts_rows : (xs : List A) (j : ℕ) → All (λ x. Contains xs x × (number x ≡ j)) (filter (λ x. eqb (number x) j) xs)
  parts_rows xs j =
      let p : A → Bool = λ x. eqb (number x) j in
      let has = All-filter p (Contains xs) xs (All-contains_itself xs) in
      let passes = filter_passes p xs in
      λ k d lt. (has k d lt, eqb-true _ j (passes k d lt))

  pub parts_have : (xs : List A) → All (λ x. Contains (filter (λ y. eqb (number y) (number x)) xs) x) xs
  parts_have xs =
      All-from_contains (λ x. Contains (filter (λ y. eqb (number y) (number x)) xs) x) xs
      (λ x has. filter-keeps (λ y. eqb (number y) (number x)) xs x (eq-eqb (number x) (number x) refl) has)
