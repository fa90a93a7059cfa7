-- Lists with one element more at their end.
use Rattle.std.proofs.Common.{◌≡◌, ℕ, zero, suc, ◌+◌, ◌-◌, ◌<◌, List, [], ◌∷◌, ◌++◌, map, length, get_or, Some, refl, sym, ap, subst, arith, inl, inr, length-append}
use Rattle.std.specs.Prelude.{All, slice_get}
use Rattle.std.specs.List.Sorted.{IsStrictlyIncreasing}
use Rattle.std.proofs.lemmas.Bool.{cases_lt}
use Rattle.std.proofs.lemmas.Option.{get_or_from_slice_get}
use Rattle.dn_cert.proofs.ListLemmas.{rises}
use Rattle.std.proofs.lemmas.List.{get_or_append_left, get_or-append-add, length-map, get_or-map, map-append}

pub slice_get-append : {X : Type 0} (xs ys : List X) (n : ℕ) (x : X) → slice_get xs n ≡ Some x → slice_get (xs ++ ys) n ≡ Some x
slice_get-append [] ys n x e = absurd cc
slice_get-append (y ∷ xs) ys zero x e = e
slice_get-append (y ∷ xs) ys (suc n) x e = slice_get-append xs ys n x e

pub slice_get-push : {X : Type 0} (xs : List X) (x : X) → slice_get (xs ++ x ∷ []) (length xs) ≡ Some x
slice_get-push [] x = refl
slice_get-push (y ∷ xs) x = slice_get-push xs x

pub IsStrictlyIncreasing-push : (ns : List ℕ) (n : ℕ) → IsStrictlyIncreasing ns → ((k : ℕ) → k < length ns → get_or ns k 0 < n) → IsStrictlyIncreasing (ns ++ n ∷ [])
IsStrictlyIncreasing-push ns n up below k within =
    let long = length-append ns (n ∷ []) in
    elim (cases_lt (k + 1) (length ns)) [
      | inl lt ↦ omega (arith, get_or_append_left ns (n ∷ []) 0 k (omega arith), get_or_append_left ns (n ∷ []) 0 (k + 1) lt, up k lt)
      | inr ge ↦
          let at : length ns + 0 ≡ k + 1 = omega arith in
          omega (arith, get_or_append_left ns (n ∷ []) 0 k (omega arith), ap (λ j. get_or (ns ++ n ∷ []) j 0) at, get_or-append-add ns (n ∷ []) 0 0, below k (omega arith))
    ]

module _ {X : Type 0} (n : X → ℕ) (xs : List X) (x : X) where
  below_so : All (λ y. n y < n x) xs → (k : ℕ) → k < length (map n xs) → get_or (map n xs) k 0 < n x
  below_so all k within =
      let at : k < length xs = omega (arith, length-map xs n) in
      let h = all k x at in omega (arith, get_or-map n xs k x 0 at)

  pub numbers_ascend : IsStrictlyIncreasing (map n xs) → All (λ y. n y < n x) xs → IsStrictlyIncreasing (map n (xs ++ x ∷ []))
  numbers_ascend up all = subst IsStrictlyIncreasing (sym (map-append n xs (x ∷ []))) (IsStrictlyIncreasing-push (map n xs) (n x) up (below_so all))

-- what is above the last one's number is above each one's
pub above_all : {X : Type 0} (n : X → ℕ) (xs : List X) (x : X) (r : ℕ) → IsStrictlyIncreasing (map n xs) → slice_get xs (length xs - 1) ≡ Some x → n x < r
    → (k : ℕ) (d : X) → k < length xs → n (get_or xs k d) < r
above_all n xs x r up last above k d within =
    let last_is : get_or xs (length xs - 1) d ≡ x = get_or_from_slice_get xs (length xs - 1) x d last in
    elim (cases_lt k (length xs - 1)) [
      | inl lt ↦ let h = rises n xs up k (length xs - 1) d lt (omega arith) in omega (arith, ap n last_is)
      | inr ge ↦ let same : k ≡ length xs - 1 = omega arith in omega (arith, ap (λ j. n (get_or xs j d)) same, ap n last_is)
    ]
