-- The numbers of the passes.
use Rattle.std.proofs.Common.{◌≡◌, ℕ, zero, suc, ◌+◌, ◌<◌, ◌≤◌, [], ◌∷◌, length, refl, sym, arith}
use mathlib.Core.Logic.{dite}
use mathlib.Core.Option.{some, some-injective, some-ne-none}
use lib.ListN.{get_elem?}
use native.Mathlib.Decide.{ℕ_discrete}
use Rattle.dn_counts.specs.Counts.{times}
use Rattle.dn_counts.specs.Numbers.{range}
use Rattle.dn_counts.proofs.Sums.{times-append, hit, miss}

pub length-range : (n k : ℕ) → length (range n k) ≡ k
length-range n zero = refl
length-range n (suc k) = omega (arith, length-range (n + 1) k)

pub range_below : (n k i x : ℕ) → get_elem? (range n k) i ≡ some x → x < n + k
range_below n zero i x e = absurd (some-ne-none x (sym e))
range_below n (suc k) zero x e = omega (arith, some-injective n x e)
range_below n (suc k) (suc i) x e = omega (arith, range_below (n + 1) k i x e)

times_below : (n k x : ℕ) → x < n → times x (range n k) ≡ 0
times_below n zero x h = refl
times_below n (suc k) x h = omega (arith, times-append x (n ∷ []) (range (n + 1) k), miss n x (λ e. omega arith), times_below (n + 1) k x (omega arith))

pub times-range : (n k x : ℕ) → times x (range n k) ≤ 1
times-range n zero x = omega arith
times-range n (suc k) x = dite (ℕ_discrete n x)
    (λ e. omega (arith, times-append x (n ∷ []) (range (n + 1) k), hit n x e, times_below (n + 1) k x (omega arith)))
    (λ ne. omega (arith, times-append x (n ∷ []) (range (n + 1) k), miss n x ne, times-range (n + 1) k x))
