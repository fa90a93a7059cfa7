-- The entries under a pass's own numbers.
use Rattle.std.proofs.Common.{◌≡◌, ℕ, suc, ◌<◌, List, [], ◌∷◌, ◌++◌, length, cond, nat_lt, refl, ap, ◌∙◌, append-nil, lt-ltb, false, true}
use Rattle.std.proofs.lemmas.List.Elements.{filter-append}
use mathlib.Core.Option.{some}
use lib.ListN.{get_elem?}
use Rattle.dn_counts.specs.Counts.{times}
use Rattle.dn_turns.specs.Logs.{under, Follows}
use Rattle.dn_counts.specs.Numbers.{least}
use Rattle.dn_counts.proofs.Least.{least_in}

module _ {E : Type 0} where
  under_none : (ns : List ℕ) (rest : List (ℕ × E)) → ((j : ℕ) (p : ℕ × E) → get_elem? rest j ≡ some p → times p.0 ns ≡ 0) → under ns rest ≡ []
  under_none ns [] none = refl
  under_none ns (e ∷ rest) none =
      let miss : nat_lt 0 (times e.0 ns) ≡ false = ap (nat_lt 0) (none 0 e refl) in
      ap (λ b. cond b (e ∷ under ns rest) (under ns rest)) miss ∙ under_none ns rest (λ j p at. none (suc j) p at)

  -- a log that follows what was seen has no further entry under these numbers
  pub under-follows : (ns : List ℕ) (seen log : List (ℕ × E)) → Follows ns seen log → under ns log ≡ under ns seen
  under-follows ns seen log f =
      ap (under ns) f.1 ∙ filter-append (λ p. nat_lt 0 (times p.0 ns)) seen f.0 ∙ ap (λ l. under ns seen ++ l) (under_none ns f.0 f.2) ∙ append-nil (under ns seen)

  -- and one entry under their least is one more
  pub under-given : (ns : List ℕ) (log : List (ℕ × E)) (entry : E) → 0 < length ns → under ns (log ++ (least ns, entry) ∷ []) ≡ under ns log ++ (least ns, entry) ∷ []
  under-given ns log entry live =
      let hit : nat_lt 0 (times (least ns) ns) ≡ true = lt-ltb 0 (times (least ns) ns) (least_in ns live) in
      filter-append (λ p. nat_lt 0 (times p.0 ns)) log ((least ns, entry) ∷ []) ∙ ap (λ b. under ns log ++ cond b ((least ns, entry) ∷ []) []) hit
