-- The turn's log goes on under the least of a pass's numbers.
use Rattle.std.proofs.Common.{◌≡◌, ℕ, ◌<◌, List, [], ◌∷◌, ◌++◌, length, sym, subst, inr, Option, Some}
use Rattle.dn_counts.specs.Counts.{times}
use Rattle.dn_counts.specs.Numbers.{least}
use Rattle.dn_counts.proofs.Least.{least_in}
use Rattle.dn_turns.specs.Logs.{GoesOn}

-- the turn's log with one entry under the least number
pub given : {E : Type 0} → (ns : List ℕ) (o : Option (List (ℕ × E))) (g log : List (ℕ × E)) (number : ℕ) (entry : E) → o ≡ Some g → log ≡ g ++ (number, entry) ∷ [] → number ≡ least ns → 0 < length ns → GoesOn ns o log
given ns o g log number entry turned grown is live = subst (λ x. GoesOn ns x log) (sym turned) (inr ((number, entry), grown, subst (λ (k : ℕ). 0 < times k ns) (sym is) (least_in ns live)))

pub kept : {E : Type 0} → (ns : List ℕ) (o : Option (List (ℕ × E))) (g log : List (ℕ × E)) → o ≡ Some g → log ≡ g → GoesOn ns o log
kept ns o g log turned same = subst (λ x. GoesOn ns x log) (sym turned) (Rattle.std.proofs.Common.inl same)
