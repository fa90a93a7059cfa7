-- Looks one after another.
use Rattle.std.proofs.Common.{◌≡◌, ℕ, zero, suc, ◌+◌, ◌≤◌, List, [], ◌∷◌, ◌++◌, refl, sym, ap, ◌∙◌, arith, append_assoc, append-nil, ◌==◌, cond, map, nat_lt, eq-eqb, ne_eqb}
use Rattle.std.specs.List.{range_with_len}
use Rattle.std.proofs.lemmas.List.{map-append}
use mathlib.Core.Logic.{dite}
use native.Mathlib.Decide.{ℕ_discrete}
use Rattle.std.proofs.lemmas.List.Sums.{sum_by-append}
use Rattle.dn_counts.specs.Counts.{equal, total}
use Rattle.dn_gate.specs.Rule.{At, view, looked_at, looked_all, many, marked_count, marks_upto, is_mark, is_three, puts}
use Rattle.dn_gate.specs.declared.view.View.{View}
use Rattle.dn_counts.proofs.Sums.{total-append, hit}
use Rattle.dn_gate.proofs.Marks.{once_most, once_yes, many_le, many_more}

module _ {T : Type 0} where
  pub looked_none : (m : At T) → m.1 ≡ [] → m ≡ (looked_all m.0 [], [])
  looked_none m e = λ j. (view m.0.passes m.0.clients m.0.before m.0.numbers m.0.claim m.0.unmarked m.0.draws m.0.values m.0.repeats m.0.closing (sym (append-nil m.0.looked) j) m.0.taken m.0.right m.0.refused m.0.closings, e j)

  pub looked_more : (v : View T) (m n : At T) (found : List (ℕ × ℕ)) (i r : ℕ) → m ≡ (looked_all v found, []) → n ≡ (looked_at m.0 i r, m.1) → n ≡ (looked_all v (found ++ (i, r) ∷ []), [])
  looked_more v m n found i r e d = d ∙ ap (λ (x : At T). (looked_at x.0 i r, x.1)) e ∙ (λ j. (view v.passes v.clients v.before v.numbers v.claim v.unmarked v.draws v.values v.repeats v.closing (append_assoc v.looked found ((i, r) ∷ []) j) v.taken v.right v.refused v.closings, []))

  pub marks_more : (v : View T) (n : ℕ) → marks_upto v (n + 1) ≡ marks_upto v n + puts n v
  marks_more v n = let e : n + 1 ≡ suc n = omega arith in ap (marks_upto v) e

pub marked_count-push : (found : List (ℕ × ℕ)) (i r : ℕ) → marked_count (found ++ (i, r) ∷ []) ≡ marked_count found + is_three r
marked_count-push found i r = sum_by-append (λ p. cond (p.1 == 3) 1 0) found ((i, r) ∷ []) ∙ omega arith

range_more : (a n : ℕ) → range_with_len a (n + 1) ≡ range_with_len a n ++ (a + n) ∷ []
range_more a n = let e : n + 1 ≡ suc n = omega arith in ap (range_with_len a) e ∙ last a n
  where
    last : (a n : ℕ) → range_with_len a (suc n) ≡ range_with_len a n ++ (a + n) ∷ []
    last a zero = let e : a ≡ a + 0 = omega arith in ap (λ (c : ℕ). c ∷ []) e
    last a (suc n) = let e : a + 1 + n ≡ a + suc n = omega arith in ap (λ l. a ∷ l) (last (a + 1) n ∙ ap (λ (c : ℕ). range_with_len (a + 1) n ++ c ∷ []) e)

-- the clients so far, each once
pub numbers_push : (found : List (ℕ × ℕ)) (i r : ℕ) → map (λ w. w.0) found ≡ range_with_len 0 i → map (λ w. w.0) (found ++ (i, r) ∷ []) ≡ range_with_len 0 (i + 1)
numbers_push found i r e = map-append (λ w. w.0) found ((i, r) ∷ []) ∙ ap (λ l. l ++ i ∷ []) e ∙ (let z : i ≡ 0 + i = omega arith in ap (λ (c : ℕ). range_with_len 0 i ++ c ∷ []) z) ∙ sym (range_more 0 i)

-- each word that was found marked is of a client of its own
pub many_push : (found : List (ℕ × ℕ)) (i r : ℕ) → marked_count found ≤ many (λ j. total (is_mark j) found) i → marked_count (found ++ (i, r) ∷ []) ≤ many (λ j. total (is_mark j) (found ++ (i, r) ∷ [])) (i + 1)
many_push found i r h =
    let g : ℕ → ℕ = λ j. total (is_mark j) (found ++ (i, r) ∷ []) in
    let before = many_le (λ j. total (is_mark j) found) g (λ j. omega (arith, total-append (is_mark j) found ((i, r) ∷ []))) i in
    omega (arith, h, before, marked_count-push found i r, many_more g i, here)
  where
    here : is_three r ≤ cond {A = ℕ} (nat_lt 0 (total (is_mark i) (found ++ (i, r) ∷ []))) 1 0
    here = dite (ℕ_discrete r 3)
        (λ e.
        let one : is_mark i (i, r) ≡ 1 = ap (λ b. cond b (equal i i) 0) (eq-eqb r 3 e) ∙ hit i i refl in
        omega (arith, once_most (r == 3), once_yes (total (is_mark i) (found ++ (i, r) ∷ [])) (omega (arith, one, total-append (is_mark i) found ((i, r) ∷ [])))))
        (λ ne. omega (arith, ap (λ b. cond {A = ℕ} b 1 0) (ne_eqb r 3 ne)))
