-- The ranges of the slots part the places behind the request bits.
use Rattle.std.proofs.Common.{◌≡◌, ℕ, zero, suc, ◌+◌, ◌*◌, ◌<◌, ◌≤◌, inl, inr, Bool, true, false, List, length, get_or, take, refl, ap, sym, arith, add-one}
use Rattle.std.specs.Prelude.{Option, Some, None, if◌then◌else◌, ◌==◌, sum}
use Rattle.std.proofs.lemmas.List.{take-take, take_all, get_or_past}
use Rattle.std.proofs.lemmas.List.Sums.{sum_by_more, sum_by-take-le}
use Rattle.std.proofs.lemmas.Bool.{cases_lt}
use Rattle.std.proofs.lemmas.Bool.Decides.{nat_tests}
use Rattle.dn_layout.specs.Layout.{request_bytes, bits_of, start_of, range_of}

-- a range in numbers
record IsRange (lengths : List ℕ) (s a b : ℕ) : Type 0 where
  first : a ≡ 8 * start_of lengths s
  end : b ≡ 8 * (start_of lengths s + get_or lengths s 0)
  wide : 0 < get_or lengths s 0
  there : s < length lengths

test_false : (n : ℕ) → (n == 0) ≡ false → 0 < n
test_false n h = grind (arith, nat_tests)

is_there : (lengths : List ℕ) (s : ℕ) → 0 < get_or lengths s 0 → s < length lengths
is_there lengths s wide =
    elim (cases_lt s (length lengths)) [ inl lt ↦ lt | inr past ↦ absurd (omega (arith, get_or_past lengths s 0 past)) ]

some_pair : (x y a b : ℕ) → ◌≡◌ {A = Option (ℕ × ℕ)} (Some (x, y)) (Some (a, b)) → (x ≡ a) × (y ≡ b)
some_pair x y a b h =
    let both : ◌≡◌ {A = ℕ × ℕ} (x, y) (a, b) = cc in
    (ap (λ p. p.0) both, ap (λ p. p.1) both)

none_pair : (a b : ℕ) → ◌≡◌ {A = Option (ℕ × ℕ)} None (Some (a, b)) → ⊥
none_pair a b h = cc

open_pair : (closed : Bool) (x y a b : ℕ) → ◌≡◌ {A = Option (ℕ × ℕ)} (if closed then None else Some (x, y)) (Some (a, b))
    → (closed ≡ false) × (x ≡ a) × (y ≡ b)
open_pair true x y a b h = absurd (none_pair a b h)
open_pair false x y a b h = (refl, (some_pair x y a b h).0, (some_pair x y a b h).1)

range_is : (lengths : List ℕ) (s a b : ℕ) → range_of lengths s ≡ Some (a, b) → IsRange lengths s a b
range_is lengths s a b h =
    let o = open_pair (get_or lengths s 0 == 0) (8 * start_of lengths s) (8 * (start_of lengths s + get_or lengths s 0)) a b h in
    let wide = test_false (get_or lengths s 0) o.0 in
    record { first = sym o.1; end = sym o.2; wide = wide; there = is_there lengths s wide }

range_at : (lengths : List ℕ) (s : ℕ) → 0 < get_or lengths s 0 → range_of lengths s ≡ Some (8 * start_of lengths s, 8 * (start_of lengths s + get_or lengths s 0))
range_at lengths s wide = let other : (get_or lengths s 0 == 0) ≡ false = grind (arith, nat_tests) in rw other refl

-- a range lies behind the request bits and within the round
pub range_within : (lengths : List ℕ) (s a b : ℕ) → range_of lengths s ≡ Some (a, b) → (length lengths ≤ a) × (a < b) × (b ≤ bits_of lengths)
range_within lengths s a b h =
    let r = range_is lengths s a b h in (
      omega (arith, r.first),
      omega (arith, r.first, r.end, r.wide),
      omega (arith, r.end, sum_by_more (λ x. x) lengths s 0 r.there, sum_by-take-le (λ x. x) lengths (s + 1)),
    )

sum_later : (lengths : List ℕ) (s t : ℕ) → s < t → s < length lengths → sum (take s lengths) + get_or lengths s 0 ≤ sum (take t lengths)
sum_later lengths s t lt low =
    let part : sum (take (s + 1) (take t lengths)) ≤ sum (take t lengths) = sum_by-take-le (λ x. x) (take t lengths) (s + 1) in
    let same : sum (take (s + 1) (take t lengths)) ≡ sum (take (s + 1) lengths) = ap sum (take-take (s + 1) t lengths (omega arith)) in
    omega (arith, sum_by_more (λ x. x) lengths s 0 low)

-- the range of a later slot lies behind
pub ranges_ascend : (lengths : List ℕ) (s t a b c d : ℕ) → s < t → range_of lengths s ≡ Some (a, b) → range_of lengths t ≡ Some (c, d) → b ≤ c
ranges_ascend lengths s t a b c d lt hs ht =
    let r = range_is lengths s a b hs in
    let q = range_is lengths t c d ht in
    omega (arith, r.end, q.first, sum_later lengths s t lt r.there)

-- a place behind the request bits lies in some slot's range
found_below : (lengths : List ℕ) (k m : ℕ) → m ≤ length lengths → 8 * request_bytes (length lengths) ≤ k → k < 8 * (request_bytes (length lengths) + sum (take m lengths))
    → (s : ℕ) × (a : ℕ) × (b : ℕ) × (range_of lengths s ≡ Some (a, b)) × (a ≤ k) × (k < b)
found_below lengths k zero le low high = absurd (omega arith)
found_below lengths k (suc m) le low high =
    elim (cases_lt k (8 * (request_bytes (length lengths) + sum (take m lengths)))) [
      | inl lt ↦ found_below lengths k m (omega arith) low lt
      | inr past ↦
          let one : sum (take (m + 1) lengths) ≡ sum (take m lengths) + get_or lengths m 0 = sum_by_more (λ x. x) lengths m 0 le in
          let more : sum (take (suc m) lengths) ≡ sum (take m lengths) + get_or lengths m 0 = rw add-one at one in
          let wide : 0 < get_or lengths m 0 = omega arith in
          (m, 8 * start_of lengths m, 8 * (start_of lengths m + get_or lengths m 0), range_at lengths m wide, past, omega (arith, more, high))
    ]

pub range_found : (lengths : List ℕ) (k : ℕ) → 8 * request_bytes (length lengths) ≤ k → k < bits_of lengths
    → (s : ℕ) × (a : ℕ) × (b : ℕ) × (range_of lengths s ≡ Some (a, b)) × (a ≤ k) × (k < b)
range_found lengths k low high = found_below lengths k (length lengths) (omega arith) low (rw (take_all (length lengths) lengths (omega arith)) high)
