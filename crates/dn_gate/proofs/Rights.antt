-- The right to take values, as it goes from a closing to a pass.
use Rattle.std.proofs.Common.{◌≡◌, ℕ, zero, suc, ◌+◌, ◌<◌, ◌≤◌, List, [], ◌∷◌, ◌++◌, length, refl, sym, ap, subst, ◌∙◌, arith, append-nil, cond, lt-ltb, Option, None}
use mathlib.Core.Option.{some}
use lib.ListN.{get_elem?}
use Rattle.atomic_table.specs.Table.{Step}
use Rattle.dn_gate.specs.Draws.{Draw}
use Rattle.dn_gate.specs.Rule.{At, view, joined, looked_all, insert_draw, merge_draws, Ascends, Settles}
use Rattle.dn_gate.specs.Pass.{IsRight}
use Rattle.dn_gate.specs.declared.view.View.{View}

insert_first : (d : Draw) (es : List Draw) → ((e : Draw) → get_elem? es 0 ≡ some e → d.place < e.place) → insert_draw d es ≡ d ∷ es
insert_first d [] h = refl
insert_first d (e ∷ es) h = ap (λ b. cond b (d ∷ e ∷ es) (e ∷ insert_draw d es)) (lt-ltb d.place e.place (h e refl))

merge-none : (ds : List Draw) → Ascends ds → merge_draws ds [] ≡ ds
merge-none [] up = refl
merge-none (d ∷ ds) up =
    ap (insert_draw d) (merge-none ds (λ j k x y lt a b. up (suc j) (suc k) x y (omega arith) a b)) ∙ insert_first d ds (λ e at. up 0 1 d e (omega arith) refl at)

module _ {T : Type 0} where
  -- a pass that looked at words, with the right
  abbrev pub with_right : View T → List (ℕ × ℕ) → ℕ → View T
  with_right v found n = view v.passes v.clients v.before v.numbers v.claim v.unmarked v.draws v.values v.repeats v.closing (v.looked ++ found) v.taken n v.refused v.closings

  -- a pass takes in the right of a closing
  pub handed : (v : View T) (found : List (ℕ × ℕ)) (w : At T) → Ascends v.draws → IsRight w → joined (looked_all v found) w.0 ≡ with_right v found (v.right + 1)
  handed v found w up is =
      ap (λ (x : At T). joined (looked_all v found) x.0) is
      ∙ (λ j. view v.passes v.clients v.before (append-nil v.numbers j) v.claim v.unmarked (merge-none v.draws up j) (append-nil v.values j) (append-nil v.repeats j) (none_too v.closing j) (append-nil (v.looked ++ found) j) (append-nil v.taken j) (v.right + 1) (append-nil v.refused j) (no_more v.closings j))
    where
      no_more : (n : ℕ) → n + 0 ≡ n
      no_more n = omega arith

      none_too : (o : Option ℕ) → Rattle.dn_counts.specs.Numbers.first_some o None ≡ o
      none_too None = refl
      none_too (Rattle.std.proofs.Common.Some n) = refl

  -- the pass m settled, looked at the words, took in the right w, and settled again
  pub has_right : (st su : Step (Option T)) (m l k j n w : At T) (r t : ℕ) (found : List (ℕ × ℕ)) → Settles st m r l → k ≡ (looked_all l.0 found, []) → IsRight w → j ≡ (joined k.0 w.0, k.1) → Settles su j t n
      → (n ≡ (with_right m.0 found 1, [])) × (m.0.taken ≡ [])
  has_right st su m l k j n w r t found told looked right came again =
      let k' : k ≡ (looked_all m.0 found, []) = looked ∙ ap (λ (x : At T). (looked_all x.0 found, [])) told.0 in
      let j' : j ≡ (with_right m.0 found (m.0.right + 1), []) = came ∙ ap (λ (x : At T). (joined x.0 w.0, x.1)) k' ∙ ap (λ v. (v, [])) (handed m.0 found w told.1 right) in
      let none_before : m.0.right ≡ 0 = omega (arith, again.3, ap (λ (x : At T). x.0.right) j') in
      (again.0 ∙ j' ∙ ap (λ (c : ℕ). (with_right m.0 found (c + 1), [])) none_before, empty m.0.taken (told.4 none_before))
    where
      empty : {A : Type 0} (xs : List A) → length xs ≡ 0 → xs ≡ []
      empty [] e = refl
      empty (x ∷ xs) e = absurd (omega arith)
