-- The least of some numbers.
use Rattle.std.proofs.Common.{◌≡◌, ℕ, ◌<◌, min, List, [], ◌∷◌, ◌++◌, length, refl, sym, subst, arith}
use mathlib.Core.Logic.{dite}
use native.Mathlib.Decide.{dec_le}
use Rattle.dn_counts.specs.Counts.{times}
use Rattle.dn_counts.specs.Numbers.{least}
use Rattle.dn_counts.proofs.Sums.{times-append, hit}

pub least_in : (ns : List ℕ) → 0 < length ns → 0 < times (least ns) ns
least_in [] h = absurd (omega arith)
least_in (n ∷ []) h = omega (arith, hit n n refl)
least_in (n ∷ m ∷ ns) h = dite (dec_le n (least (m ∷ ns)))
    (λ le. let e : min n (least (m ∷ ns)) ≡ n = omega arith in subst (λ (k : ℕ). 0 < times k (n ∷ m ∷ ns)) (sym e) (omega (arith, times-append n (n ∷ []) (m ∷ ns), hit n n refl)))
    (λ gt. let e : min n (least (m ∷ ns)) ≡ least (m ∷ ns) = omega arith in subst (λ (k : ℕ). 0 < times k (n ∷ m ∷ ns)) (sym e) (omega (arith, times-append (least (m ∷ ns)) (n ∷ []) (m ∷ ns), least_in (m ∷ ns) (omega arith))))

pub least-append : (ns ms : List ℕ) → 0 < length ns → 0 < length ms → least (ns ++ ms) ≡ min (least ns) (least ms)
least-append [] ms a b = absurd (omega arith)
least-append (n ∷ []) [] a b = absurd (omega arith)
least-append (n ∷ []) (m ∷ ms) a b = refl
least-append (n ∷ k ∷ ns) ms a b = omega (arith, least-append (k ∷ ns) ms (omega arith) b)
