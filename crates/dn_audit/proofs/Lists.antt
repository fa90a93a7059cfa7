-- What lists contain, and what sets and maps of byte strings do.
use Rattle.std.proofs.Common.{◌≡◌, ℕ, zero, suc, ◌<◌, ◌⊎◌, inl, inr, List, [], ◌∷◌, map, length, get_or, Option, Some, None, Bool, true, false, cond, refl, ap, sym, subst, ◌∙◌, arith}
use Rattle.std.proofs.lemmas.List.Elements.{Contains-get_or}
use Rattle.std.specs.Prelude.{All, Contains, MatchBool, MatchOption, ◌↔◌}
use Rattle.std.specs.List.Sorted.{IsPermutation}
use Rattle.std.proofs.lemmas.List.Sorted.{Contains-permutation, IsPermutation-sym}
use Rattle.std.specs.List.{list_any}
use Rattle.std.specs.Str.{bytes_eq}
use Rattle.std.specs.Map.{lookup}
use Rattle.std.proofs.lemmas.List.{get_or-map, length-map}
use Rattle.std.proofs.lemmas.List.Folds.{Any-from_list_any, list_any-from_Any}
use Rattle.std.proofs.lemmas.Slice.Eq.{bytes_eq-Decides}

pub here : {A : Type 0} (x : A) (xs : List A) → Contains (x ∷ xs) x
here x xs = (0, omega arith, refl)

pub later : {A : Type 0} (y : A) (xs : List A) (x : A) → Contains xs x → Contains (y ∷ xs) x
later y xs x h = (suc h.0, omega (arith, h.1), h.2)

at_place : {A : Type 0} (y : A) (xs : List A) (x : A) (k : ℕ) → k < length (y ∷ xs) → get_or (y ∷ xs) k x ≡ x → (y ≡ x) ⊎ Contains xs x
at_place y xs x zero lt h = inl h
at_place y xs x (suc k) lt h = inr (k, omega arith, h)

pub first_or_later : {A : Type 0} (y : A) (xs : List A) (x : A) → Contains (y ∷ xs) x → (y ≡ x) ⊎ Contains xs x
first_or_later y xs x h = at_place y xs x h.0 h.1 h.2

pub nothing : {A : Type 0} (x : A) → Contains [] x → ⊥
nothing x h = omega (arith, h.1)

module _ {X Y : Type 0} (f : X → Y) where
  pub Contains-map : (xs : List X) (x : X) → Contains xs x → Contains (map f xs) (f x)
  Contains-map xs x a = (a.0, rw (length-map xs f) a.1, get_or-map f xs a.0 x (f x) a.1 ∙ ap f a.2)

  from_map : (xs : List X) (y : Y) (k : ℕ) → k < length xs → get_or (map f xs) k y ≡ y → (x : X) × Contains xs x × (f x ≡ y)
  from_map [] y k lt e = absurd (omega arith)
  from_map (x ∷ xs) y zero lt e = (x, (0, lt, refl), e)
  from_map (x ∷ xs) y (suc k) lt e =
      let r = from_map xs y k (omega arith) e in (r.0, (suc r.1.0, omega (arith, r.1.1), r.1.2), r.2)

  pub Contains-from_map : (xs : List X) (y : Y) → Contains (map f xs) y → (x : X) × Contains xs x × (f x ≡ y)
  Contains-from_map xs y a = from_map xs y a.0 (rw (length-map xs f) at a.1) a.2

module _ {K : Type 0} (f : K → List ℕ) (b : List ℕ) (ks : List K) where
  -- a key of the set spells these bytes
  pub held_to : list_any (λ y. bytes_eq b (f y)) ks ≡ true → Contains (map f ks) b
  held_to h =
      let a = Any-from_list_any (λ y. bytes_eq b (f y)) ks h in
      subst (Contains (map f ks)) (sym ((bytes_eq-Decides b (f a.1)).0 a.4)) (Contains-map f ks a.1 (a.0, a.2, a.3))

  pub held_from : Contains (map f ks) b → list_any (λ y. bytes_eq b (f y)) ks ≡ true
  held_from h =
      let a = Contains-from_map f ks b h in
      list_any-from_Any (λ y. bytes_eq b (f y)) ks (a.1.0, a.0, a.1.1, a.1.2, (bytes_eq-Decides b (f a.0)).1 (sym a.2))

module _ {V : Type 0} (d : List ℕ) where
  looked : (k : List ℕ) (x : V) (es : List (List ℕ × V)) (v : V) (t : Bool) → bytes_eq d k ≡ t → cond t (Some x) (lookup (bytes_eq d) es) ≡ Some v
      → (lookup (bytes_eq d) es ≡ Some v → Contains es (d, v)) → Contains ((k, x) ∷ es) (d, v)
  looked k x es v true is h rest =
      let same : (k, x) ≡ (d, v) = grind (arith, (bytes_eq-Decides d k).0 is, h) in
      subst (Contains ((k, x) ∷ es)) same (here (k, x) es)
  looked k x es v false is h rest = later (k, x) es (d, v) (rest h)

  -- what is looked up is an entry
  pub is_entry : (es : List (List ℕ × V)) (v : V) → lookup (bytes_eq d) es ≡ Some v → Contains es (d, v)
  is_entry [] v h = absurd (grind (arith, h))
  is_entry (e ∷ es) v h = looked e.0 e.1 es v (bytes_eq d e.0) refl h (is_entry es v)

  unlooked : (k : List ℕ) (x : V) (es : List (List ℕ × V)) (t : Bool) → bytes_eq d k ≡ t → cond t (Some x) (lookup (bytes_eq d) es) ≡ None
      → (lookup (bytes_eq d) es ≡ None → (e : List ℕ × V) → Contains es e → e.0 ≡ d → ⊥) → (e : List ℕ × V) → Contains ((k, x) ∷ es) e → e.0 ≡ d → ⊥
  unlooked k x es true is h rest e there same = absurd (grind (arith, h))
  unlooked k x es false is h rest e there same =
      elim (first_or_later (k, x) es e there) [
        | inl first ↦ let yes = (bytes_eq-Decides d k).1 (sym same ∙ sym (ap (λ z. z.0) first)) in absurd (grind (arith, yes, is))
        | inr behind ↦ rest h e behind same
      ]

  -- there is no entry where none is looked up
  pub no_entry : (es : List (List ℕ × V)) → lookup (bytes_eq d) es ≡ None → (e : List ℕ × V) → Contains es e → e.0 ≡ d → ⊥
  no_entry [] h e there same = nothing e there
  no_entry (x ∷ es) h e there same = unlooked x.0 x.1 es (bytes_eq d x.0) refl h (no_entry es) e there same

-- a set that a key joins
pub joined : {K : Type 0} (f : K → List ℕ) (k : K) (old new : List K) (added : Bool) → MatchBool added (IsPermutation (k ∷ old) new) (new ≡ old)
    → (added ≡ false → Contains (map f old) (f k)) → (x : List ℕ) → Contains (map f new) x ↔ (Contains (map f old) x ⊎ (x ≡ f k))
joined f k old new true moved was x = (
  λ h. let a = Contains-from_map f new x h in
      elim (first_or_later k old a.0 (Contains-permutation new (k ∷ old) a.0 (IsPermutation-sym (k ∷ old) new moved) a.1)) [
        | inl is ↦ inr (sym a.2 ∙ ap f (sym is))
        | inr there ↦ inl (subst (Contains (map f old)) a.2 (Contains-map f old a.0 there))
      ],
  λ h. elim h [
    | inl there ↦ let a = Contains-from_map f old x there in
        subst (Contains (map f new)) a.2 (Contains-map f new a.0 (Contains-permutation (k ∷ old) new a.0 moved (later k old a.0 a.1)))
    | inr is ↦ subst (Contains (map f new)) (sym is) (Contains-map f new k (Contains-permutation (k ∷ old) new k moved (here k old)))
  ],
)
joined f k old new false same was x = (
  λ h. inl (subst (λ ks. Contains (map f ks) x) same h),
  λ h. elim h [
    | inl there ↦ subst (λ ks. Contains (map f ks) x) (sym same) there
    | inr is ↦ subst (λ ks. Contains (map f ks) x) (sym same) (subst (Contains (map f old)) (sym is) (was refl))
  ],
)

-- what holds where there is none
pub at_none : {A : Type 0} (o : Option A) (P : Type 0) (Q : A → Type 0) → o ≡ None → MatchOption o P Q → P
at_none None P Q is h = h
at_none (Some x) P Q is h = absurd (grind (arith, is))

pub All-from_contains : {A : Type 0} (P : A → Type 0) (xs : List A) → ((x : A) → Contains xs x → P x) → All P xs
All-from_contains P xs each = λ k d lt. each (get_or xs k d) (Contains-get_or xs k d lt)
