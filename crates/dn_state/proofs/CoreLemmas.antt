-- Cores at their places, and things done in turn.
use Rattle.std.proofs.Common.{◌≡◌, ℕ, zero, suc, List, [], ◌∷◌, ◌++◌, Option, Some, None, refl, sym, ap, subst, ◌∙◌}
use Rattle.std.specs.Prelude.{slice_set}
use Rattle.std.proofs.lemmas.List.{append-nil, append_assoc}
use Rattle.dn_flight.specs.Flight.{FlightView}
use Rattle.dn_report.specs.declared.outcome.Outcome.{Outcome}
use Rattle.dn_state.specs.Parts.{PartsView}
use Rattle.dn_state.specs.Doing.{InTurn}
use Rattle.dn_state.specs.Members.{core_at}

-- a core that is put back as it was
pub set_back : {A : Type 0} (cores : List (Option A)) (k : ℕ) (core : A) → core_at cores k ≡ Some core → slice_set cores k (Some core) ≡ cores
set_back [] k core there = refl
set_back (x ∷ cores) zero core there = ap (λ y. y ∷ cores) (sym there)
set_back (x ∷ cores) (suc k) core there = ap (λ ys. x ∷ ys) (set_back cores k core there)

-- a place that is written twice
pub set_twice : {A : Type 0} (xs : List A) (k : ℕ) (x y : A) → slice_set (slice_set xs k x) k y ≡ slice_set xs k y
set_twice [] k x y = refl
set_twice (z ∷ xs) zero x y = refl
set_twice (z ∷ xs) (suc k) x y = ap (λ ys. z ∷ ys) (set_twice xs k x y)

-- an empty place that is emptied
pub set_none : {A : Type 0} (cores : List (Option A)) (k : ℕ) → core_at cores k ≡ None → slice_set cores k None ≡ cores
set_none [] k none = refl
set_none (x ∷ cores) zero none = ap (λ y. y ∷ cores) (sym none)
set_none (x ∷ cores) (suc k) none = ap (λ ys. x ∷ ys) (set_none cores k none)

-- what is done with one more
pub in_turn_push : {A : Type 0} (does : A → PartsView → PartsView → List Outcome → Type 0) (xs : List A) (x : A) (old between new : PartsView) (lines more : List Outcome)
    → InTurn does xs old between lines → does x between new more → InTurn does (xs ++ x ∷ []) old new (lines ++ more)
in_turn_push does [] x old between new lines more done one = record {
  between = new;
  lines_first = more;
  lines_rest = [];
  begins = subst (λ s. does x s new more) done.0 one;
  goes_on = (refl, refl);
  told = ap (λ l. l ++ more) done.1 ∙ sym (append-nil more);
}
in_turn_push does (y ∷ xs) x old between new lines more done one = record {
  between = done.between;
  lines_first = done.lines_first;
  lines_rest = done.lines_rest ++ more;
  begins = done.begins;
  goes_on = in_turn_push does xs x done.between between new done.lines_rest more done.goes_on one;
  told = ap (λ l. l ++ more) done.told ∙ append_assoc done.lines_first done.lines_rest more;
}

-- the flight without what is taken out
pub same_flight : (f g : FlightView) → g.msgs ≡ f.msgs → g.next ≡ f.next → g ≡ f
same_flight f g msgs next = λ i. record { msgs = msgs i; next = next i }
