-- The least of a pass's numbers is one of a pass.
use Rattle.std.proofs.Common.{◌≡◌, ℕ, suc, ◌<◌, List, [], ◌∷◌, length, refl, arith}
use mathlib.Core.Option.{some}
use lib.ListN.{get_elem?}
use Rattle.dn_counts.specs.Numbers.{least}

pub least_below : (ns : List ℕ) (p : ℕ) → 0 < length ns → ((j n : ℕ) → get_elem? ns j ≡ some n → n < p) → least ns < p
least_below [] p h b = absurd (omega arith)
least_below (n ∷ []) p h b = b 0 n refl
least_below (n ∷ m ∷ ns) p h b = omega (arith, b 0 n refl, least_below (m ∷ ns) p (omega arith) (λ j. b (suc j)))
