-- Digits and their sum.
use Rattle.std.proofs.Common.{◌≡◌, ℕ, zero, suc, ◌+◌, ◌-◌, ◌*◌, ◌/◌, ◌%◌, ◌^◌, ◌<◌, ◌≤◌, List, get_or, refl, arith, add-one}
use Rattle.std.proofs.lemmas.Nat.{and_mask}
use Rattle.std.specs.Prelude.{bit_and}
use Rattle.dn_ots.specs.Parameters.{IsCode, width, last_step, shift}
use Rattle.dn_ots.specs.Digits.{coef, sum_below}
use Rattle.dn_ots.proofs.ParameterLemmas.{by_code}

-- a digit by shift and mask
pub coef_by_mask : (s : List ℕ) (i code m : ℕ) → m ≡ last_step code
    → bit_and (get_or s (i * width code / 8) 0 / 2 ^ (8 - (width code * (i % (8 / width code)) + width code))) m ≡ coef s i (width code)
unfolding last_step coef
coef_by_mask s i code m e = rw e (and_mask _ (width code))

-- no digit is past the greatest
pub coef_small : (s : List ℕ) (i code : ℕ) → IsCode code → coef s i (width code) ≤ last_step code
unfolding coef width last_step
coef_small s i code h = by_code (λ code. coef s i (width code) ≤ last_step code) (omega arith) (omega arith) (omega arith) (omega arith) code h

pub sum_below_none : (f : ℕ → ℕ) → sum_below f 0 ≡ 0
unfolding sum_below
sum_below_none f = refl

pub sum_below_more : (f : ℕ → ℕ) (n : ℕ) → sum_below f (n + 1) ≡ sum_below f n + f n
unfolding sum_below
sum_below_more f n = rw add-one refl

sum_below_le : (f : ℕ → ℕ) (m n : ℕ) → ((i : ℕ) → f i ≤ m) → sum_below f n ≤ n * m
unfolding sum_below
sum_below_le f m zero h = omega arith
sum_below_le f m (suc n) h = omega (arith, sum_below_le f m n h, h n)

-- the sum of a hash's digits stays small
pub digits_sum_small : (f : ℕ → ℕ) (code n : ℕ) → IsCode code → ((i : ℕ) → f i ≤ last_step code) → n ≤ 256 / width code → sum_below f n ≤ 8160
unfolding last_step width
digits_sum_small f code n h le lt =
    by_code (λ code. ((i : ℕ) → f i ≤ last_step code) → n ≤ 256 / width code → sum_below f n ≤ 8160)
    (λ le lt. omega (arith, sum_below_le f 1 n le))
    (λ le lt. omega (arith, sum_below_le f 3 n le))
    (λ le lt. omega (arith, sum_below_le f 15 n le))
    (λ le lt. omega (arith, sum_below_le f 255 n le)) code h le lt

-- and shifted it fits 16 bits
pub checksum_fits : (code : ℕ) (f : ℕ → ℕ) → IsCode code → ((i : ℕ) → f i ≤ last_step code) → sum_below f (256 / width code) * 2 ^ shift code < 2 ^ 16
unfolding last_step width shift
checksum_fits code f h le =
    by_code (λ code. ((i : ℕ) → f i ≤ last_step code) → sum_below f (256 / width code) * 2 ^ shift code < 2 ^ 16)
    (λ le. omega (arith, sum_below_le f 1 256 le))
    (λ le. omega (arith, sum_below_le f 3 128 le))
    (λ le. omega (arith, sum_below_le f 15 64 le))
    (λ le. omega (arith, sum_below_le f 255 32 le)) code h le
