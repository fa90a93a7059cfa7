-- The numbers of passes as they are made.
use Rattle.std.proofs.Common.{◌≡◌, ℕ, zero, suc, ◌+◌, ◌-◌, ◌<◌, List, [], ◌∷◌, ◌++◌, length, refl, sym, ap, subst, arith, IfSome, slice_get}
use Rattle.dn_counts.specs.Numbers.{range, first_of, rest_of}

pub range_one : (n k : ℕ) → k ≡ 1 → range n k ≡ n ∷ []
range_one n k e = ap (range n) e

pub range_two : (n k : ℕ) → 1 < k → range n k ≡ n ∷ (n + 1) ∷ range (n + 1 + 1) (k - 2)
range_two n zero h = absurd (omega arith)
range_two n (suc zero) h = absurd (omega arith)
range_two n (suc (suc k)) h = let e : k ≡ suc (suc k) - 2 = omega arith in ap (λ (j : ℕ). n ∷ (n + 1) ∷ range (n + 1 + 1) j) e

pub first_of-range : (n k : ℕ) → 0 < k → first_of (range n k) ≡ n ∷ []
first_of-range n zero h = absurd (omega arith)
first_of-range n (suc k) h = refl

pub rest_of-range : (n k : ℕ) → 0 < k → rest_of (range n k) ≡ range (n + 1) (k - 1)
rest_of-range n zero h = absurd (omega arith)
rest_of-range n (suc k) h = let e : k ≡ suc k - 1 = omega arith in ap (range (n + 1)) e

pub all_more : {A : Type 0} (P : ℕ → A → Type 0) (xs : List A) (x : A) (n : ℕ) → length xs ≡ n → ((i : ℕ) → IfSome (slice_get xs i) (P i)) → P n x → (i : ℕ) → IfSome (slice_get (xs ++ x ∷ []) i) (P i)
all_more P [] x n e h p zero = subst (λ (k : ℕ). P k x) (sym e) p
all_more P [] x n e h p (suc i) = tt
all_more P (y ∷ xs) x zero e h p i = absurd (omega arith)
all_more P (y ∷ xs) x (suc n) e h p zero = h zero
all_more P (y ∷ xs) x (suc n) e h p (suc i) = all_more (λ k a. P (suc k) a) xs x n (omega arith) (λ k. h (suc k)) p i
