-- Flags that are set one by one.
use Rattle.std.proofs.Common.{◌≡◌, ℕ, zero, suc, ◌+◌, ◌<◌, Bool, true, false, List, [], ◌∷◌, length, get_or, set, take, replicate, refl, sym, ap, ◌∙◌, subst, arith, inl, inr, get_or-set_same, get_or-set_other}
use Rattle.std.specs.Prelude.{◌⊎◌, Contains}
use Rattle.std.proofs.lemmas.Grind.{common_steps}
use Rattle.std.proofs.lemmas.Bool.{false≢true, cases_eq}
use Rattle.std.proofs.lemmas.List.{take_more}
use Rattle.std.proofs.lemmas.List.Elements.{Contains-append_left, Contains-push, Contains-push_cases}
use Rattle.dn_trace.specs.Evidence.{Tells}

module _ (n : ℕ) (P Q : ℕ → Type 0) (flags : List Bool) (old : Tells flags n P) where
  -- the same is told of the same
  pub tells_same : ((i : ℕ) → P i → Q i) → ((i : ℕ) → Q i → P i) → Tells flags n Q
  tells_same to back = record { size = old.size; each = λ i lt. ((λ t. to i ((old.each i lt).0 t)), (λ q. (old.each i lt).1 (back i q))) }

  -- the flag of one more is set
  pub tells_mark : (a : ℕ) → ((i : ℕ) → P i → Q i) → ((i : ℕ) → Q i → P i ⊎ (i ≡ a)) → Q a → Tells (set flags a true) n Q
  tells_mark a to back here = record {
    size = length_set flags ∙ old.size;
    each = λ i lt. elim (cases_eq i a) [
      | inl same ↦ ((λ t. subst Q (sym same) here), (λ q. ap (λ k. get_or (set flags a true) k false) same ∙ get_or-set_same flags a true false (omega (arith, old.size))))
      | inr ne ↦
          let other : get_or (set flags a true) i false ≡ get_or flags i false = get_or-set_other flags a i true false ne in
          ((λ t. to i ((old.each i lt).0 (sym other ∙ t))), (λ q. other ∙ elim (back i q) [ inl p ↦ (old.each i lt).1 p | inr e ↦ absurd (ne e) ]))
    ];
  }
    where
      length_set : (xs : List Bool) → length (set xs a true) ≡ length xs
      length_set xs = grind (arith, common_steps)

-- no flag is set
all_off : (n i : ℕ) → get_or (replicate n false) i false ≡ false
all_off zero i = refl
all_off (suc n) zero = refl
all_off (suc n) (suc i) = all_off n i

long_off : (n : ℕ) → length (replicate n false) ≡ n
long_off zero = refl
long_off (suc n) = ap suc (long_off n)

pub tells_nothing : (n : ℕ) (P : ℕ → Type 0) → ((i : ℕ) → ¬ P i) → Tells (replicate n false) n P
tells_nothing n P none = record { size = long_off n; each = λ i lt. ((λ t. absurd (false≢true (sym (all_off n i) ∙ t))), (λ p. absurd (none i p))) }

-- what is contained before a place, and at it
module _ {X : Type 0} (xs : List X) (k : ℕ) (d : X) (lt : k < length xs) where
  pub contained_kept : (x : X) → Contains (take k xs) x → Contains (take (k + 1) xs) x
  contained_kept x a = subst (λ l. Contains l x) (sym (take_more xs k d lt)) (Contains-append_left (take k xs) (get_or xs k d ∷ []) x a)

  pub contained_new : Contains (take (k + 1) xs) (get_or xs k d)
  contained_new = subst (λ l. Contains l (get_or xs k d)) (sym (take_more xs k d lt)) (Contains-push (take k xs) (get_or xs k d))

  pub contained_cases : (x : X) → Contains (take (k + 1) xs) x → Contains (take k xs) x ⊎ (get_or xs k d ≡ x)
  contained_cases x a = Contains-push_cases (take k xs) (get_or xs k d) x (subst (λ l. Contains l x) (take_more xs k d lt) a)
