-- Places in lists that grow or lose elements.
use Rattle.std.proofs.Common.{◌≡◌, ℕ, zero, suc, ◌<◌, ◌≤◌, List, [], ◌∷◌, ◌++◌, map, length, get_or, refl, sym, ap, subst, ◌∙◌, arith, inl, inr, Bool, true, false, not}
use Rattle.std.specs.Prelude.{Contains, ◌==◌, filter, slice_get, Some}
use Rattle.std.specs.List.{list_any}
use Rattle.std.proofs.lemmas.Bool.{cases_Bool}
use Rattle.std.proofs.lemmas.Option.{slice_get-get_or, slice_get_within, get_or_from_slice_get}
use Rattle.dn_cert.proofs.Orders.{here, later, nothing, first_or_later}

pub no_more : {A : Type 0} (xs : List A) → xs ≡ xs ++ []
no_more [] = refl
no_more (x ∷ xs) = ap (λ ys. x ∷ ys) (no_more xs)

pub both_ways : {A : Type 0} (xs ys zs : List A) → (xs ++ ys) ++ zs ≡ xs ++ (ys ++ zs)
both_ways [] ys zs = refl
both_ways (x ∷ xs) ys zs = ap (λ ws. x ∷ ws) (both_ways xs ys zs)

-- the only element
pub only : {A : Type 0} (x y : A) → Contains (x ∷ []) y → x ≡ y
only x y h = elim (first_or_later x [] y h) [ inl e ↦ e | inr behind ↦ absurd (nothing y behind) ]

-- ---- places

pub place_of_one : {A : Type 0} (xs : List A) (x : A) → Contains xs x → (n : ℕ) × (slice_get xs n ≡ Some x)
place_of_one xs x h = (h.0, slice_get-get_or xs h.0 x h.1 ∙ ap Some h.2)

pub one_at : {A : Type 0} (xs : List A) (n : ℕ) (x : A) → slice_get xs n ≡ Some x → Contains xs x
one_at xs n x at = (n, slice_get_within xs n x at, get_or_from_slice_get xs n x x at)

pub place_stays : {A : Type 0} (xs ys : List A) (n : ℕ) (x : A) → slice_get xs n ≡ Some x → slice_get (xs ++ ys) n ≡ Some x
place_stays [] ys n x h = absurd cc
place_stays (z ∷ xs) ys zero x h = h
place_stays (z ∷ xs) ys (suc n) x h = place_stays xs ys n x h

pub place_at_end : {A : Type 0} (xs : List A) (x : A) → slice_get (xs ++ x ∷ []) (length xs) ≡ Some x
place_at_end [] x = refl
place_at_end (z ∷ xs) x = place_at_end xs x

pub value_stays : {A : Type 0} (xs ys : List A) (k : ℕ) (d : A) → k < length xs → get_or (xs ++ ys) k d ≡ get_or xs k d
value_stays [] ys k d lt = absurd (omega arith)
value_stays (x ∷ xs) ys zero d lt = refl
value_stays (x ∷ xs) ys (suc k) d lt = value_stays xs ys k d (omega arith)

pub value_at_end : {A : Type 0} (xs : List A) (x d : A) → get_or (xs ++ x ∷ []) (length xs) d ≡ x
value_at_end [] x d = refl
value_at_end (z ∷ xs) x d = value_at_end xs x d

-- ---- filters

pub map-filter : {A B : Type 0} (f : A → B) (p : B → Bool) (xs : List A) → filter p (map f xs) ≡ map f (filter (λ x. p (f x)) xs)
map-filter f p [] = refl
map-filter f p (x ∷ xs) =
    elim (cases_Bool (p (f x))) [
      | inl passes ↦ rw passes (ap (λ ys. f x ∷ ys) (map-filter f p xs))
      | inr fails ↦ rw fails (map-filter f p xs)
    ]

-- two tests that agree on a list keep the same of it
pub same_kept : {A : Type 0} (p q : A → Bool) (xs : List A) → ((x : A) → Contains xs x → p x ≡ q x) → filter p xs ≡ filter q xs
same_kept p q [] same = refl
same_kept p q (x ∷ xs) same =
    elim (cases_Bool (q x)) [
      | inl passes ↦ rw (same x (here x xs) ∙ passes) (rw passes (ap (λ ys. x ∷ ys) (same_kept p q xs (λ y h. same y (later x xs y h)))))
      | inr fails ↦ rw (same x (here x xs) ∙ fails) (rw fails (same_kept p q xs (λ y h. same y (later x xs y h))))
    ]

-- a filter that all pass keeps the list
pub all_kept : {A : Type 0} (p : A → Bool) (xs : List A) → ((x : A) → Contains xs x → p x ≡ true) → filter p xs ≡ xs
all_kept p [] passes = refl
all_kept p (x ∷ xs) passes = rw (passes x (here x xs)) (ap (λ ys. x ∷ ys) (all_kept p xs (λ y h. passes y (later x xs y h))))

-- where none of some numbers is this one, none is taken out
pub none_taken : (xs : List ℕ) (id : ℕ) → list_any (λ k. k == id) xs ≡ false → filter (λ k. not (k == id)) xs ≡ xs
none_taken [] id none = refl
none_taken (x ∷ xs) id none =
    elim (cases_Bool (x == id)) [
      | inl is ↦ let t : true ≡ false = rw is at none in absurd cc
      | inr other ↦ rw other (ap (λ ys. x ∷ ys) (none_taken xs id (rw other at none)))
    ]

-- a number that is among some is found among them
pub is_among : (xs : List ℕ) (id : ℕ) → Contains xs id → list_any (λ k. k == id) xs ≡ true
is_among xs id h = elim (cases_Bool (list_any (λ k. k == id) xs)) [ inl found ↦ found | inr none ↦ absurd (not_among xs none h) ] where
  not_among : (ys : List ℕ) → list_any (λ k. k == id) ys ≡ false → Contains ys id → ⊥
  not_among [] none g = nothing id g
  not_among (y ∷ ys) none g = elim (first_or_later y ys id g) [
    | inl same ↦ let t : list_any (λ k. k == y) (y ∷ ys) ≡ false = subst (λ n. list_any (λ k. k == n) (y ∷ ys) ≡ false) (sym same) none in
        let e : (y == y) ≡ true = grind arith in
        let u : true ≡ false = rw e at t in absurd cc
    | inr behind ↦ elim (cases_Bool (y == id)) [
      | inl is ↦ let u : true ≡ false = rw is at none in absurd cc
      | inr other ↦ not_among ys (rw other at none) behind
    ]
  ]

-- what stands behind the first places is of the second list
pub place_from_behind : {A : Type 0} (xs ys : List A) (n : ℕ) (y : A) → length xs ≤ n → slice_get (xs ++ ys) n ≡ Some y → Contains ys y
place_from_behind [] ys n y past at = one_at ys n y at
place_from_behind (x ∷ xs) ys zero y past at = absurd (omega arith)
place_from_behind (x ∷ xs) ys (suc n) y past at = place_from_behind xs ys n y (omega arith) at
