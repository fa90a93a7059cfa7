-- What can be listed.
use Rattle.std.proofs.Common.{◌≡◌, List, [], ◌∷◌, ◌++◌, map, sym, subst, inl, inr}
use Rattle.std.specs.Prelude.{Contains, ◌⊎◌, ◌↔◌}
use Rattle.std.proofs.lemmas.List.Elements.{Contains-append_left, Contains-append_right, Contains-append_cases}
use Rattle.dn_cert.proofs.Orders.{here, later, nothing, first_or_later}
use Rattle.dn_cert.proofs.ListLemmas.{Contains-map, Contains-from_map}
use Rattle.dn_headline.proofs.Deciding.{Decided}

-- a list has all that are so, and no others
abbrev pub Finite : {B : Type 0} → (B → Type 0) → Type 0
Finite {B} P = (ys : List B) × ((y : B) → P y ↔ Contains ys y)

module _ {B : Type 0} where
  pub none_so : (P : B → Type 0) → ((y : B) → P y → ⊥) → Finite P
  none_so P never = ([], λ y. (λ h. absurd (never y h), λ h. absurd (nothing y h)))

  pub either_so : (P Q : B → Type 0) → Finite P → Finite Q → Finite (λ y. P y ⊎ Q y)
  either_so P Q p q = (
    p.0 ++ q.0,
    λ y. (
      λ h. elim h [ inl a ↦ Contains-append_left p.0 q.0 y ((p.1 y).0 a) | inr b ↦ Contains-append_right p.0 q.0 y ((q.1 y).0 b) ],
      λ h. elim (Contains-append_cases p.0 q.0 y h) [ inl a ↦ inl ((p.1 y).1 a) | inr b ↦ inr ((q.1 y).1 b) ],
    ),
  )

  pub so_as : (P Q : B → Type 0) → ((y : B) → P y → Q y) → ((y : B) → Q y → P y) → Finite P → Finite Q
  so_as P Q to from p = (p.0, λ y. (λ h. (p.1 y).0 (from y h), λ h. to y ((p.1 y).1 h)))

  pub one_so : (Q : Type 0) (x : B) → Decided Q → Finite (λ y. Q × (x ≡ y))
  one_so Q x (inl q) = (
    x ∷ [],
    λ y. (
      λ h. subst (Contains (x ∷ [])) h.1 (here x []),
      λ h. (q, elim (first_or_later x [] y h) [ inl e ↦ e | inr none ↦ absurd (nothing y none) ]),
    ),
  )
  one_so Q x (inr never) = ([], λ y. (λ h. absurd (never h.0), λ h. absurd (nothing y h)))

  pub over_so : {A : Type 0} (P : A → B → Type 0) (xs : List A) → ((a : A) → Contains xs a → Finite (P a)) → Finite (λ y. (a : A) × Contains xs a × P a y)
  over_so P [] each = ([], λ y. (λ h. absurd (nothing h.0 h.1), λ h. absurd (nothing y h)))
  over_so {A} P (x ∷ xs) each =
      let first = each x (here x xs) in
      let rest = over_so P xs (λ a h. each a (later x xs a h)) in (
        first.0 ++ rest.0,
        λ y. (
          λ h. elim (first_or_later x xs h.0 h.1) [
            | inl e ↦ Contains-append_left first.0 rest.0 y ((first.1 y).0 (subst (λ (a : A). P a y) (sym e) h.2))
            | inr behind ↦ Contains-append_right first.0 rest.0 y ((rest.1 y).0 (h.0, behind, h.2))
          ],
          λ h. elim (Contains-append_cases first.0 rest.0 y h) [
            | inl a ↦ (x, here x xs, (first.1 y).1 a)
            | inr b ↦ let r = (rest.1 y).1 b in (r.0, later x xs r.0 r.1, r.2)
          ],
        ),
      )

pub mapped_so : {B C : Type 0} (P : B → Type 0) (f : B → C) → Finite P → Finite (λ z. (y : B) × P y × (f y ≡ z))
mapped_so P f p = (
  map f p.0,
  λ z. (
    λ h. subst (Contains (map f p.0)) h.2 (Contains-map f p.0 h.0 ((p.1 h.0).0 h.1)),
    λ h. let y = Contains-from_map f p.0 z h in (y.0, (p.1 y.0).1 y.1, y.2),
  ),
)
