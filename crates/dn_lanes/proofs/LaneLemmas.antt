-- Vectors of four words, lane by lane.
use Rattle.std.proofs.Common.{◌≡◌, ℕ, ◌<◌, ◌+◌, ◌-◌, ◌*◌, ◌/◌, ◌%◌, ◌^◌, List, [], ◌∷◌, length, slice_index, slice_set, bit_or, arith, refl, subst}
use Rattle.std.specs.Int.{w32, rotate_right}
use Rattle.std.specs.Simd.Lanes.{zip2}
use Rattle.rand_chacha.specs.Lanes.{lane}
use Rattle.rand_chacha.proofs.LaneLemmas.{below_four, four_lanes}

abbrev RotatesRight : ℕ → List ℕ → Type 0
RotatesRight k a = (j : ℕ) → j < 4
    → slice_index (zip2 bit_or
    (zip2 (λ x n. x / 2 ^ n) a (k ∷ k ∷ k ∷ k ∷ []))
    (zip2 (λ x n. x * 2 ^ n % 2 ^ 32) a ((32 - k) ∷ (32 - k) ∷ (32 - k) ∷ (32 - k) ∷ []))) j
    ≡ rotate_right w32 (slice_index a j) k

pub shifts_rotate_right : (k : ℕ) → 0 < k → k < 32 → (a : List ℕ) → length a ≡ 4 → RotatesRight k a
shifts_rotate_right k low high =
    let left : k % 32 ≡ k = omega arith in
    let right : (32 - k) % 32 ≡ 32 - k = omega arith in
    four_lanes (RotatesRight k) (λ a0 a1 a2 a3.
    below_four _ (rw (left, right) refl) (rw (left, right) refl) (rw (left, right) refl) (rw (left, right) refl))

-- what a shift of each lane is
pub shifts_right : (k : ℕ) → (a : List ℕ) → length a ≡ 4 → (j : ℕ) → j < 4
    → slice_index (zip2 (λ x n. x / 2 ^ n) a (k ∷ k ∷ k ∷ k ∷ [])) j ≡ slice_index a j / 2 ^ k
shifts_right k =
    four_lanes (λ a. (j : ℕ) → j < 4 → slice_index (zip2 (λ x n. x / 2 ^ n) a (k ∷ k ∷ k ∷ k ∷ [])) j ≡ slice_index a j / 2 ^ k)
    (λ a0 a1 a2 a3. below_four _ refl refl refl refl)

-- what holds of each of the sixteen words
pub below_sixteen : (P : ℕ → Type 0) → P 0 → P 1 → P 2 → P 3 → P 4 → P 5 → P 6 → P 7
    → P 8 → P 9 → P 10 → P 11 → P 12 → P 13 → P 14 → P 15 → (k : ℕ) → k < 16 → P k
below_sixteen P a0 a1 a2 a3 b0 b1 b2 b3 c0 c1 c2 c3 d0 d1 d2 d3 k h =
    let place : 4 * (k / 4) + k % 4 ≡ k = omega arith in
    subst P place (below_four (λ row. (col : ℕ) → col < 4 → P (4 * row + col))
    (below_four _ a0 a1 a2 a3) (below_four _ b0 b1 b2 b3) (below_four _ c0 c1 c2 c3) (below_four _ d0 d1 d2 d3)
    (k / 4) (omega arith) (k % 4) (omega arith))

-- what holds of each list of sixteen vectors
sixteen_vectors : (P : List (List ℕ) → Type 0) → ((a0 a1 a2 a3 a4 a5 a6 a7 a8 a9 a10 a11 a12 a13 a14 a15 : List ℕ) → P (a0 ∷ a1 ∷ a2 ∷ a3 ∷ a4 ∷ a5 ∷ a6 ∷ a7 ∷ a8 ∷ a9 ∷ a10 ∷ a11 ∷ a12 ∷ a13 ∷ a14 ∷ a15 ∷ [])) → (xs : List (List ℕ)) → length xs ≡ 16 → P xs
sixteen_vectors P p (a0 ∷ a1 ∷ a2 ∷ a3 ∷ a4 ∷ a5 ∷ a6 ∷ a7 ∷ a8 ∷ a9 ∷ a10 ∷ a11 ∷ a12 ∷ a13 ∷ a14 ∷ a15 ∷ []) h = p a0 a1 a2 a3 a4 a5 a6 a7 a8 a9 a10 a11 a12 a13 a14 a15
sixteen_vectors P p [] h = absurd (omega arith)
sixteen_vectors P p (a0 ∷ []) h = absurd (omega arith)
sixteen_vectors P p (a0 ∷ a1 ∷ []) h = absurd (omega arith)
sixteen_vectors P p (a0 ∷ a1 ∷ a2 ∷ []) h = absurd (omega arith)
sixteen_vectors P p (a0 ∷ a1 ∷ a2 ∷ a3 ∷ []) h = absurd (omega arith)
sixteen_vectors P p (a0 ∷ a1 ∷ a2 ∷ a3 ∷ a4 ∷ []) h = absurd (omega arith)
sixteen_vectors P p (a0 ∷ a1 ∷ a2 ∷ a3 ∷ a4 ∷ a5 ∷ []) h = absurd (omega arith)
sixteen_vectors P p (a0 ∷ a1 ∷ a2 ∷ a3 ∷ a4 ∷ a5 ∷ a6 ∷ []) h = absurd (omega arith)
sixteen_vectors P p (a0 ∷ a1 ∷ a2 ∷ a3 ∷ a4 ∷ a5 ∷ a6 ∷ a7 ∷ []) h = absurd (omega arith)
sixteen_vectors P p (a0 ∷ a1 ∷ a2 ∷ a3 ∷ a4 ∷ a5 ∷ a6 ∷ a7 ∷ a8 ∷ []) h = absurd (omega arith)
sixteen_vectors P p (a0 ∷ a1 ∷ a2 ∷ a3 ∷ a4 ∷ a5 ∷ a6 ∷ a7 ∷ a8 ∷ a9 ∷ []) h = absurd (omega arith)
sixteen_vectors P p (a0 ∷ a1 ∷ a2 ∷ a3 ∷ a4 ∷ a5 ∷ a6 ∷ a7 ∷ a8 ∷ a9 ∷ a10 ∷ []) h = absurd (omega arith)
sixteen_vectors P p (a0 ∷ a1 ∷ a2 ∷ a3 ∷ a4 ∷ a5 ∷ a6 ∷ a7 ∷ a8 ∷ a9 ∷ a10 ∷ a11 ∷ []) h = absurd (omega arith)
sixteen_vectors P p (a0 ∷ a1 ∷ a2 ∷ a3 ∷ a4 ∷ a5 ∷ a6 ∷ a7 ∷ a8 ∷ a9 ∷ a10 ∷ a11 ∷ a12 ∷ []) h = absurd (omega arith)
sixteen_vectors P p (a0 ∷ a1 ∷ a2 ∷ a3 ∷ a4 ∷ a5 ∷ a6 ∷ a7 ∷ a8 ∷ a9 ∷ a10 ∷ a11 ∷ a12 ∷ a13 ∷ []) h = absurd (omega arith)
sixteen_vectors P p (a0 ∷ a1 ∷ a2 ∷ a3 ∷ a4 ∷ a5 ∷ a6 ∷ a7 ∷ a8 ∷ a9 ∷ a10 ∷ a11 ∷ a12 ∷ a13 ∷ a14 ∷ []) h = absurd (omega arith)
sixteen_vectors P p (a0 ∷ a1 ∷ a2 ∷ a3 ∷ a4 ∷ a5 ∷ a6 ∷ a7 ∷ a8 ∷ a9 ∷ a10 ∷ a11 ∷ a12 ∷ a13 ∷ a14 ∷ a15 ∷ b ∷ xs) h = absurd (omega arith)

-- a write of a vector is a write in each lane
abbrev Writes : ℕ → List (List ℕ) → Type 0
Writes j x = (y : List ℕ) (place : ℕ) → place < 16 → lane j (slice_set x place y) ≡ slice_set (lane j x) place (slice_index y j)

pub lane-set : (j : ℕ) (x : List (List ℕ)) → length x ≡ 16 → Writes j x
lane-set j = sixteen_vectors (Writes j) (λ a0 a1 a2 a3 a4 a5 a6 a7 a8 a9 a10 a11 a12 a13 a14 a15 y. below_sixteen _ refl refl refl refl refl refl refl refl refl refl refl refl refl refl refl refl)
