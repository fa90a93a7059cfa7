-- Numbers between two others.
use Rattle.std.proofs.Common.{◌≡◌, ℕ, zero, ◌+◌, ◌<◌, ◌≤◌, ◌≢◌, refl, ap, ◌∙◌, arith, cond, lt-ltb, le-ltb, le-leb, ltb, leb, leb-true, ◌&&◌, Bool, true, false, ap₂}
use mathlib.Core.Logic.{dite}
use native.Mathlib.Decide.{ℕ_discrete, dec_le}
use Rattle.dn_counts.specs.Counts.{equal}
use Rattle.dn_counts.proofs.Sums.{hit, miss}
use Rattle.dn_turns.specs.Logs.{within}

pub leb-no : (a b : ℕ) → b < a → leb a b ≡ false
leb-no a b h = at (leb a b) refl
  where
    at : (x : Bool) → leb a b ≡ x → leb a b ≡ false
    at true t = absurd (omega (arith, leb-true a b t))
    at false f = f

-- 1 where low ≤ k < high
pub within_yes : (low high k : ℕ) → low ≤ k → k < high → within low high k ≡ 1
within_yes low high k a b = ap₂ (λ x y. cond (x && y) 1 0) (le-leb low k a) (lt-ltb k high b)

pub within_low : (low high k : ℕ) → k < low → within low high k ≡ 0
within_low low high k a = ap (λ x. cond (x && ltb k high) 1 0) (leb-no low k a)

pub within_high : (low high k : ℕ) → high ≤ k → within low high k ≡ 0
within_high low high k a = ap (λ y. cond (leb low k && y) 1 0) (le-ltb k high a) ∙ off (leb low k)
  where
    off : (b : Bool) → cond (b && false) 1 0 ≡ zero
    off true = refl
    off false = refl

-- one number more at the top
pub within_more : (low high k : ℕ) → low ≤ high → within low (high + 1) k ≡ within low high k + equal high k
within_more low high k h = dite (ℕ_discrete high k)
    (λ e. omega (arith, within_yes low (high + 1) k (omega arith) (omega arith), within_high low high k (omega arith), hit high k e))
    (λ ne. dite (dec_le low k)
    (λ above. dite (dec_le high k)
    (λ over. omega (arith, within_high low (high + 1) k (omega arith), within_high low high k over, miss high k ne))
    (λ in_it. omega (arith, within_yes low (high + 1) k above (omega arith), within_yes low high k above (omega arith), miss high k ne)))
    (λ under. omega (arith, within_low low (high + 1) k (omega arith), within_low low high k (omega arith), miss high k ne)))

-- one number less at the bottom
pub within_less : (low high k : ℕ) → low < high → within low high k ≡ within (low + 1) high k + equal low k
within_less low high k h = dite (ℕ_discrete low k)
    (λ e. omega (arith, within_yes low high k (omega arith) (omega arith), within_low (low + 1) high k (omega arith), hit low k e))
    (λ ne. dite (dec_le low k)
    (λ above. dite (dec_le high k)
    (λ over. omega (arith, within_high low high k over, within_high (low + 1) high k over, miss low k ne))
    (λ in_it. omega (arith, within_yes low high k above (omega arith), within_yes (low + 1) high k (omega arith) (omega arith), miss low k ne)))
    (λ under. omega (arith, within_low low high k (omega arith), within_low (low + 1) high k (omega arith), miss low k ne)))
