-- Sums over lists that change at one place, and counts of numbers.
use Rattle.std.proofs.Common.{◌≡◌, ℕ, zero, suc, ◌+◌, ◌<◌, ◌≤◌, ◌≢◌, ◌⊎◌, inl, inr, ⊎_elim, List, [], ◌∷◌, ◌++◌, length, set, sym, refl, ap, ◌∙◌, arith, cond, eq-eqb, ne_eqb, lt-ltb, le-ltb, ◌==◌}
use Rattle.std.proofs.lemmas.List.Sums.{sum_by-append}
use mathlib.Core.Logic.{dite}
use mathlib.Core.Option.{some, some-injective, some-ne-none}
use native.Mathlib.Decide.{ℕ_discrete, dec_le}
use lib.ListN.{get_elem?}
use Rattle.dn_counts.specs.Counts.{total, times, equal, once_below}
use Rattle.dn_counts.specs.Numbers.{range}

module _ {A : Type 0} (g : A → ℕ) where
  pub total-append : (l m : List A) → total g (l ++ m) ≡ total g l + total g m
  total-append [] m = omega arith
  total-append (x ∷ xs) m = omega (arith, total-append xs m)

  pub total-set : (l : List A) (j : ℕ) (v w : A) → get_elem? l j ≡ some v → total g (set l j w) + g v ≡ total g l + g w
  total-set [] j v w e = absurd (some-ne-none v (sym e))
  total-set (x ∷ xs) zero v w e = omega (arith, ap g (some-injective x v e))
  total-set (x ∷ xs) (suc j) v w e = omega (arith, total-set xs j v w e)

  pub term_le : (l : List A) (j : ℕ) (v : A) → get_elem? l j ≡ some v → g v ≤ total g l
  term_le [] j v e = absurd (some-ne-none v (sym e))
  term_le (x ∷ xs) zero v e = omega (arith, ap g (some-injective x v e))
  term_le (x ∷ xs) (suc j) v e = omega (arith, term_le xs j v e)

  pub terms_le : (l : List A) (j k : ℕ) (v u : A) → k ≢ j → get_elem? l j ≡ some v → get_elem? l k ≡ some u → g v + g u ≤ total g l
  terms_le [] j k v u n e d = absurd (some-ne-none v (sym e))
  terms_le (x ∷ xs) zero zero v u n e d = absurd (n refl)
  terms_le (x ∷ xs) zero (suc k) v u n e d = omega (arith, ap g (some-injective x v e), term_le xs k u d)
  terms_le (x ∷ xs) (suc j) zero v u n e d = omega (arith, ap g (some-injective x u d), term_le xs j v e)
  terms_le (x ∷ xs) (suc j) (suc k) v u n e d = omega (arith, terms_le xs j k v u (λ h. n (ap suc h)) e d)

module _ {A : Type 0} (f g : A → ℕ) where
  -- where f is nowhere more than g, it isn't in all, by what it is less at one place
  pub total_less : (l : List A) (i : ℕ) (v : A) → ((j : ℕ) (u : A) → get_elem? l j ≡ some u → f u ≤ g u) → get_elem? l i ≡ some v → total f l + g v ≤ total g l + f v
  total_less [] i v h e = absurd (some-ne-none v (sym e))
  total_less (x ∷ xs) zero v h e = let s = some-injective x v e in omega (arith, ap f s, ap g s, all xs (λ j. h (suc j)))
    where
      all : (l : List A) → ((j : ℕ) (u : A) → get_elem? l j ≡ some u → f u ≤ g u) → total f l ≤ total g l
      all [] h = omega arith
      all (y ∷ ys) h = omega (arith, h 0 y refl, all ys (λ j. h (suc j)))
  total_less (x ∷ xs) (suc i) v h e = omega (arith, h 0 x refl, total_less xs i v (λ j. h (suc j)) e)

  pub total_le : (l : List A) → ((x : A) → f x ≤ g x) → total f l ≤ total g l
  total_le [] h = omega arith
  total_le (x ∷ xs) h = omega (arith, h x, total_le xs h)

  -- where g is 0 everywhere, and f is 0 where g is
  none : (l : List A) → ((j : ℕ) (u : A) → get_elem? l j ≡ some u → g u ≡ 0 → f u ≡ 0) → total g l ≡ 0 → total f l ≡ 0
  none [] h e = refl
  none (x ∷ xs) h e = omega (arith, h 0 x refl (omega arith), none xs (λ j. h (suc j)) (omega arith))

  -- where one element has all of g, it has all of f
  pub whole : (l : List A) (j : ℕ) (v : A) → ((j : ℕ) (u : A) → get_elem? l j ≡ some u → g u ≡ 0 → f u ≡ 0) → get_elem? l j ≡ some v → total g l ≡ g v → total f l ≡ f v
  whole [] j v h e all = absurd (some-ne-none v (sym e))
  whole (x ∷ xs) zero v h e all = let s = some-injective x v e in let a : f x ≡ f v = ap f s in let b : g x ≡ g v = ap g s in omega (arith, none xs (λ j. h (suc j)) (omega arith))
  whole (x ∷ xs) (suc j) v h e all = omega (arith, h 0 x refl (omega (arith, term_le g xs j v e)), whole xs j v (λ j. h (suc j)) e (omega (arith, term_le g xs j v e)))

pub times-append : (x : ℕ) (xs ys : List ℕ) → times x (xs ++ ys) ≡ times x xs + times x ys
times-append x xs ys = sum_by-append (λ y. cond (y == x) 1 0) xs ys

pub times-push : (x : ℕ) (xs : List ℕ) (q : ℕ) → times x (xs ++ q ∷ []) ≡ times x xs + equal q x
times-push x xs q = times-append x xs (q ∷ []) ∙ omega arith

pub hit : (n x : ℕ) → n ≡ x → equal n x ≡ 1
hit n x e = ap (λ b. cond b 1 0) (eq-eqb n x e)

pub miss : (n x : ℕ) → n ≢ x → equal n x ≡ 0
miss n x e = ap (λ b. cond b 1 0) (ne_eqb n x e)

module _ {A : Type 0} where
  -- what a write puts where something was
  pub set_over : (l : List A) (i : ℕ) (v w : A) → get_elem? l i ≡ some v → get_elem? (set l i w) i ≡ some w
  set_over [] i v w e = absurd (some-ne-none v (sym e))
  set_over (x ∷ xs) zero v w e = refl
  set_over (x ∷ xs) (suc i) v w e = set_over xs i v w e

pub below_yes : (x n : ℕ) → x < n → once_below x n ≡ 1
below_yes x n h = ap (λ b. cond b 1 0) (lt-ltb x n h)

pub below_no : (x n : ℕ) → n ≤ x → once_below x n ≡ 0
below_no x n h = ap (λ b. cond b 1 0) (le-ltb x n h)

-- one number more
pub below_more : (x n : ℕ) → once_below x (n + 1) ≡ once_below x n + equal n x
below_more x n = dite (ℕ_discrete n x)
    (λ e. omega (arith, below_yes x (n + 1) (omega arith), below_no x n (omega arith), hit n x e))
    (λ ne. dite (dec_le n x)
    (λ le. omega (arith, below_no x (n + 1) (omega arith), below_no x n le, miss n x ne))
    (λ gt. omega (arith, below_yes x (n + 1) (omega arith), below_yes x n (omega arith), miss n x ne)))

module _ {A : Type 0} where
  pub in_range : (l : List A) (i : ℕ) (a : A) → get_elem? l i ≡ some a → i < length l
  in_range [] i a e = absurd (some-ne-none a (sym e))
  in_range (x ∷ xs) zero a e = omega arith
  in_range (x ∷ xs) (suc i) a e = omega (arith, in_range xs i a e)

  pub snoc_at : (l : List A) (a b : A) (j : ℕ) → get_elem? (l ++ a ∷ []) j ≡ some b → (get_elem? l j ≡ some b) ⊎ ((j ≡ length l) × (a ≡ b))
  snoc_at [] a b zero e = inr (refl, some-injective a b e)
  snoc_at [] a b (suc j) e = absurd (some-ne-none b (sym e))
  snoc_at (x ∷ xs) a b zero e = inl e
  snoc_at (x ∷ xs) a b (suc j) e = ⊎_elim (λ t. inl t) (λ t. inr (ap suc t.0, t.1)) (snoc_at xs a b j e)

module _ {A : Type 0} (g : A → ℕ) where
  -- where a sum isn't 0, some element isn't
  pub someone : (l : List A) → 0 < total g l → (j : ℕ) × (u : A) × (get_elem? l j ≡ some u) × (0 < g u)
  someone [] h = absurd (omega arith)
  someone (x ∷ xs) h = dite (dec_le (g x) 0)
      (λ le. let t = someone xs (omega arith) in (suc t.0, t.1, t.2, t.3))
      (λ gt. (0, x, refl, omega arith))

pub length-range : (n k : ℕ) → length (range n k) ≡ k
length-range n zero = refl
length-range n (suc k) = omega (arith, length-range (n + 1) k)

times_below : (n k x : ℕ) → x < n → times x (range n k) ≡ 0
times_below n zero x h = refl
times_below n (suc k) x h = omega (arith, times-append x (n ∷ []) (range (n + 1) k), miss n x (λ e. omega arith), times_below (n + 1) k x (omega arith))

pub times-range : (n k x : ℕ) → times x (range n k) ≤ 1
times-range n zero x = omega arith
times-range n (suc k) x = dite (ℕ_discrete n x)
    (λ e. omega (arith, times-append x (n ∷ []) (range (n + 1) k), hit n x e, times_below (n + 1) k x (omega arith)))
    (λ ne. omega (arith, times-append x (n ∷ []) (range (n + 1) k), miss n x ne, times-range (n + 1) k x))

times_above : (n k x : ℕ) → n + k ≤ x → times x (range n k) ≡ 0
times_above n zero x h = refl
times_above n (suc k) x h = omega (arith, times-append x (n ∷ []) (range (n + 1) k), miss n x (λ e. omega arith), times_above (n + 1) k x (omega arith))

pub range_below : (p x : ℕ) → 0 < times x (range 0 p) → x < p
range_below p x h = dite (dec_le p x) (λ le. absurd (omega (arith, times_above 0 p x (omega arith), h))) (λ gt. omega arith)
