-- The lists of a verdict: who stands in them, and in which order.
use Rattle.std.proofs.Common.{◌≡◌, ℕ, zero, suc, ◌+◌, ◌<◌, Bool, true, false, List, [], ◌∷◌, ◌++◌, length, get_or, map, refl, sym, ap, ◌∙◌, subst, arith, inl, inr, Option, Some, None}
use Rattle.std.specs.Prelude.{Contains, AllPairs, ◌⊎◌}
use Rattle.std.proofs.lemmas.List.{length-map}
use Rattle.std.proofs.lemmas.List.Elements.{Contains-get_or, Contains-append_cases}
use Rattle.dn_wire.specs.declared.ids.Member.{Member}
use Rattle.dn_trace.specs.declared.fault.Fault.{Fault}
use Rattle.dn_trace.specs.Tables.{blames_from, members_from}

from_map : {X Y : Type 0} (f : X → Y) (xs : List X) (y : Y) (k : ℕ) → k < length xs → get_or (map f xs) k y ≡ y → (x : X) × Contains xs x × (f x ≡ y)
from_map f [] y k lt e = absurd (omega arith)
from_map f (x ∷ xs) y zero lt e = (x, (0, lt, refl), e)
from_map f (x ∷ xs) y (suc k) lt e = let r = from_map f xs y k (omega arith) e in (r.0, (suc r.1.0, omega (arith, r.1.1), r.1.2), r.2)

pub Contains-from_map : {X Y : Type 0} (f : X → Y) (xs : List X) (y : Y) → Contains (map f xs) y → (x : X) × Contains xs x × (f x ≡ y)
Contains-from_map f xs y a = from_map f xs y a.0 (rw (length-map xs f) at a.1) a.2

contains_cons : {X : Type 0} (x : X) (xs : List X) (y : X) → Contains xs y → Contains (x ∷ xs) y
contains_cons x xs y a = (suc a.0, omega (arith, a.1), a.2)

cons_cases : {X : Type 0} (x : X) (xs : List X) (y : X) (k : ℕ) → k < length (x ∷ xs) → get_or (x ∷ xs) k y ≡ y → (x ≡ y) ⊎ Contains xs y
cons_cases x xs y zero lt e = inl e
cons_cases x xs y (suc k) lt e = inr (k, omega arith, e)

module _ {X : Type 0} (R : X → X → Type 0) where
  pub pairs_nil : AllPairs R []
  pairs_nil i j d lt within = absurd (omega arith)

  pub pairs_cons : (x : X) (xs : List X) → ((y : X) → Contains xs y → R x y) → AllPairs R xs → AllPairs R (x ∷ xs)
  pairs_cons x xs before pairs i zero d lt within = absurd (omega arith)
  pairs_cons x xs before pairs zero (suc j) d lt within = before (get_or xs j d) (Contains-get_or xs j d (omega arith))
  pairs_cons x xs before pairs (suc i) (suc j) d lt within = pairs i j d (omega arith) (omega arith)

  pub pairs_append : (xs ys : List X) → AllPairs R xs → AllPairs R ys → ((x y : X) → Contains xs x → Contains ys y → R x y) → AllPairs R (xs ++ ys)
  pairs_append [] ys px py before = py
  pairs_append (x ∷ xs) ys px py before =
      pairs_cons x (xs ++ ys)
      (λ y among. elim (Contains-append_cases xs ys y among) [
        | inl left ↦ px_head y left
        | inr right ↦ before x y (0, omega arith, refl) right
      ])
      (pairs_append xs ys (λ i j d lt within. px (suc i) (suc j) d (omega arith) (omega arith)) py (λ a b in_xs in_ys. before a b (contains_cons x xs a in_xs) in_ys))
    where
      px_head : (y : X) → Contains xs y → R x y
      px_head y a = subst (R x) a.2 (px 0 (suc a.0) y (omega arith) (omega (arith, a.1)))

module _ (member : ℕ → Member) where
  pub blames_has : (n : ℕ) (faults : List (Option Fault)) (k : ℕ) (f : Fault) (at : ℕ) → k < length faults → get_or faults k None ≡ Some f → n + k ≡ at
      → Contains (blames_from member n faults) (member at, f)
  blames_has n [] k f at lt is e = absurd (omega arith)
  blames_has n (None ∷ faults) zero f at lt is e = absurd cc
  blames_has n (None ∷ faults) (suc k) f at lt is e = blames_has (n + 1) faults k f at (omega arith) is (omega arith)
  blames_has n (Some g ∷ faults) zero f at lt is e =
      let same : n ≡ at = omega arith in
      let g_is : g ≡ f = cc in
      (0, omega arith, (λ i. (member (same i), g_is i)))
  blames_has n (Some g ∷ faults) (suc k) f at lt is e =
      contains_cons (member n, g) (blames_from member (n + 1) faults) (member at, f) (blames_has (n + 1) faults k f at (omega arith) is (omega arith))

  pub blames_are : (n : ℕ) (faults : List (Option Fault)) (b : Member × Fault) → Contains (blames_from member n faults) b
      → (k : ℕ) × (f : Fault) × (k < length faults) × (get_or faults k None ≡ Some f) × (b ≡ (member (n + k), f))
  blames_are n [] b a = absurd (omega (arith, a.1))
  blames_are n (None ∷ faults) b a =
      let r = blames_are (n + 1) faults b a in
      let at : n + 1 + r.0 ≡ n + suc r.0 = omega arith in
      (suc r.0, r.1, omega (arith, r.2), r.3, r.4 ∙ ap (λ x. (member x, r.1)) at)
  blames_are n (Some g ∷ faults) b a =
      elim (cons_cases (member n, g) (blames_from member (n + 1) faults) b a.0 a.1 a.2) [
        | inl here ↦ let at : n ≡ n + 0 = omega arith in (0, g, omega arith, refl, sym here ∙ ap (λ x. (member x, g)) at)
        | inr later ↦
            let r = blames_are (n + 1) faults b later in
            let at : n + 1 + r.0 ≡ n + suc r.0 = omega arith in
            (suc r.0, r.1, omega (arith, r.2), r.3, r.4 ∙ ap (λ x. (member x, r.1)) at)
      ]

  pub members_has : (n : ℕ) (flags : List Bool) (k at : ℕ) → k < length flags → get_or flags k false ≡ true → n + k ≡ at → Contains (members_from member n flags) (member at)
  members_has n [] k at lt is e = absurd (omega arith)
  members_has n (false ∷ flags) zero at lt is e = absurd cc
  members_has n (false ∷ flags) (suc k) at lt is e = members_has (n + 1) flags k at (omega arith) is (omega arith)
  members_has n (true ∷ flags) zero at lt is e = let same : n ≡ at = omega arith in (0, omega arith, ap member same)
  members_has n (true ∷ flags) (suc k) at lt is e =
      contains_cons (member n) (members_from member (n + 1) flags) (member at) (members_has (n + 1) flags k at (omega arith) is (omega arith))

  pub members_are : (n : ℕ) (flags : List Bool) (m : Member) → Contains (members_from member n flags) m
      → (k : ℕ) × (k < length flags) × (get_or flags k false ≡ true) × (m ≡ member (n + k))
  members_are n [] m a = absurd (omega (arith, a.1))
  members_are n (false ∷ flags) m a =
      let r = members_are (n + 1) flags m a in
      let at : n + 1 + r.0 ≡ n + suc r.0 = omega arith in (suc r.0, omega (arith, r.1), r.2, r.3 ∙ ap member at)
  members_are n (true ∷ flags) m a =
      elim (cons_cases (member n) (members_from member (n + 1) flags) m a.0 a.1 a.2) [
        | inl here ↦ let at : n ≡ n + 0 = omega arith in (0, omega arith, refl, sym here ∙ ap member at)
        | inr later ↦
            let r = members_are (n + 1) flags m later in
            let at : n + 1 + r.0 ≡ n + suc r.0 = omega arith in (suc r.0, omega (arith, r.1), r.2, r.3 ∙ ap member at)
      ]

  module _ (R : Member → Member → Type 0) (rises : (i j : ℕ) → i < j → R (member i) (member j)) where
    pub blames_ordered : (n : ℕ) (faults : List (Option Fault)) → AllPairs R (map (λ b. b.0) (blames_from member n faults))
    blames_ordered n [] = pairs_nil R
    blames_ordered n (None ∷ faults) = blames_ordered (n + 1) faults
    blames_ordered n (Some f ∷ faults) =
        pairs_cons R (member n) (map (λ b. b.0) (blames_from member (n + 1) faults))
        (λ y among.
        let b = Contains-from_map (λ (x : Member × Fault). x.0) (blames_from member (n + 1) faults) y among in
        let r = blames_are (n + 1) faults b.0 b.1 in
        subst (R (member n)) (sym (sym b.2 ∙ ap (λ x. x.0) r.4)) (rises n (n + 1 + r.0) (omega arith)))
        (blames_ordered (n + 1) faults)

    pub members_ordered : (n : ℕ) (flags : List Bool) → AllPairs R (members_from member n flags)
    members_ordered n [] = pairs_nil R
    members_ordered n (false ∷ flags) = members_ordered (n + 1) flags
    members_ordered n (true ∷ flags) =
        pairs_cons R (member n) (members_from member (n + 1) flags)
        (λ y among. let r = members_are (n + 1) flags y among in subst (R (member n)) (sym r.3) (rises n (n + 1 + r.0) (omega arith)))
        (members_ordered (n + 1) flags)
