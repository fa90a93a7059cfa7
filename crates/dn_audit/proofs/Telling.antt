-- One string more.
use Rattle.std.proofs.Common.{◌≡◌, ℕ, ◌⊎◌, inl, inr, List, [], ◌∷◌, ◌++◌, Bool, true, false, IsTrue, refl, ap, sym, subst, ◌∙◌, arith}
use Rattle.std.specs.Prelude.{Contains, ◌&&◌, ◌↔◌}
use Rattle.std.specs.Str.{bytes_eq}
use Rattle.std.proofs.lemmas.Slice.Eq.{bytes_eq-Decides}
use Rattle.std.specs.List.Sorted.{IsPermutation}
use Rattle.std.proofs.lemmas.List.Elements.{Contains-append_left, Contains-push, Contains-push_cases}
use Rattle.std.proofs.lemmas.List.Sorted.{Contains-permutation, IsPermutation-sym}
use Rattle.dn_audit.specs.Strings.{Hashed, StringsView, NoneCollide, Tells}
use Rattle.dn_audit.proofs.Lists.{here, later, first_or_later}

both : (a b : Bool) → IsTrue (a && b) ↔ (IsTrue a × IsTrue b)
both true b = (λ h. (refl, h), λ h. h.1)
both false b = (λ h. absurd (grind (arith, h)), λ h. h.0)

fewer : (strings : List Hashed) (x : Hashed) → NoneCollide (strings ++ x ∷ []) → NoneCollide strings
fewer strings x none a b in_a in_b same = none a b (Contains-append_left strings (x ∷ []) a in_a) (Contains-append_left strings (x ∷ []) b in_b) same

-- a string whose digest another one has had
module _ (v : StringsView) (strings : List Hashed) (tells : Tells v strings) (x first : Hashed) (there : Contains v.first first) (alike : first.digest ≡ x.digest) where
  grown : first.string ≡ x.string → NoneCollide strings → NoneCollide (strings ++ x ∷ [])
  grown same none a b in_a in_b digests =
      let to_first : (c : Hashed) → Contains (strings ++ x ∷ []) c → c.digest ≡ x.digest → c.string ≡ x.string =
      λ c in_c is. elim (Contains-push_cases strings x c in_c) [
        | inl old ↦ none c first old (tells.among first there) (is ∙ sym alike) ∙ same
        | inr new ↦ ap (λ (h : Hashed). h.string) (sym new)
      ] in
      elim (Contains-push_cases strings x a in_a) [
        | inl old_a ↦ elim (Contains-push_cases strings x b in_b) [
          | inl old_b ↦ none a b old_a old_b digests
          | inr new_b ↦ to_first a in_a (digests ∙ ap (λ (h : Hashed). h.digest) (sym new_b)) ∙ ap (λ (h : Hashed). h.string) new_b
        ]
        | inr new_a ↦ ap (λ (h : Hashed). h.string) (sym new_a)
            ∙ sym (to_first b in_b (sym digests ∙ ap (λ (h : Hashed). h.digest) (sym new_a)))
      ]

  pub tells_again : (same : Bool) → IsTrue same ↔ (first.string ≡ x.string) → Tells (record v { differ = v.differ && same }) (strings ++ x ∷ [])
  tells_again same decides = record {
    among = λ y h. Contains-append_left strings (x ∷ []) y (tells.among y h);
    each = λ y h. elim (Contains-push_cases strings x y h) [
      | inl old ↦ tells.each y old
      | inr new ↦ (first, there, alike ∙ ap (λ (z : Hashed). z.digest) new)
    ];
    one_each = tells.one_each;
    differ = (
      λ h. let two = (both v.differ same).0 h in grown (decides.0 two.1) (tells.differ.0 two.0),
      λ none. (both v.differ same).1 (
        tells.differ.1 (fewer strings x none),
        decides.1 (none first x (Contains-append_left strings (x ∷ []) first (tells.among first there)) (Contains-push strings x) alike),
      ),
    );
  }

  decided : (a b : List ℕ) → IsTrue (bytes_eq a b) ↔ (a ≡ b)
  decided a b = bytes_eq-Decides a b

  pub tells_still : v.differ ≡ false → Tells v (strings ++ x ∷ [])
  tells_still unsound =
      let again = tells_again (bytes_eq first.string x.string) (decided first.string x.string) in
      subst (λ b. Tells (record v { differ = b }) (strings ++ x ∷ [])) (ap (λ b. b && bytes_eq first.string x.string) unsound ∙ sym unsound) again

-- a string with a digest that none has had
module _ (v : StringsView) (strings : List Hashed) (tells : Tells v strings) (x : Hashed) (fresh : (y : Hashed) → Contains v.first y → y.digest ≡ x.digest → ⊥) where
  apart : (y : Hashed) → Contains strings y → y.digest ≡ x.digest → ⊥
  apart y h same = let first = tells.each y h in fresh first.0 first.1 (first.2 ∙ same)

  grown_apart : NoneCollide strings → NoneCollide (strings ++ x ∷ [])
  grown_apart none a b in_a in_b digests =
      elim (Contains-push_cases strings x a in_a) [
        | inl old_a ↦ elim (Contains-push_cases strings x b in_b) [
          | inl old_b ↦ none a b old_a old_b digests
          | inr new_b ↦ absurd (apart a old_a (digests ∙ ap (λ (h : Hashed). h.digest) (sym new_b)))
        ]
        | inr new_a ↦ elim (Contains-push_cases strings x b in_b) [
          | inl old_b ↦ absurd (apart b old_b (sym digests ∙ ap (λ (h : Hashed). h.digest) (sym new_a)))
          | inr new_b ↦ ap (λ (h : Hashed). h.string) (sym new_a ∙ new_b)
        ]
      ]

  module _ (more : List Hashed) (added : IsPermutation (x ∷ v.first) more) where
    back : (y : Hashed) → Contains more y → (x ≡ y) ⊎ Contains v.first y
    back y h = first_or_later x v.first y (Contains-permutation more (x ∷ v.first) y (IsPermutation-sym (x ∷ v.first) more added) h)

    forth : (y : Hashed) → Contains (x ∷ v.first) y → Contains more y
    forth y h = Contains-permutation (x ∷ v.first) more y added h

    pub tells_new : Tells (record v { first = more }) (strings ++ x ∷ [])
    tells_new = record {
      among = λ y h. elim (back y h) [
        | inl is ↦ subst (Contains (strings ++ x ∷ [])) is (Contains-push strings x)
        | inr old ↦ Contains-append_left strings (x ∷ []) y (tells.among y old)
      ];
      each = λ y h. elim (Contains-push_cases strings x y h) [
        | inl old ↦ let first = tells.each y old in (first.0, forth first.0 (later x v.first first.0 first.1), first.2)
        | inr new ↦ (x, forth x (here x v.first), ap (λ (z : Hashed). z.digest) new)
      ];
      one_each = λ y z in_y in_z same. elim (back y in_y) [
        | inl is_y ↦ elim (back z in_z) [
          | inl is_z ↦ ap (λ (h : Hashed). h.string) (sym is_y ∙ is_z)
          | inr old_z ↦ absurd (fresh z old_z (sym same ∙ ap (λ (h : Hashed). h.digest) (sym is_y)))
        ]
        | inr old_y ↦ elim (back z in_z) [
          | inl is_z ↦ absurd (fresh y old_y (same ∙ ap (λ (h : Hashed). h.digest) (sym is_z)))
          | inr old_z ↦ tells.one_each y z old_y old_z same
        ]
      ];
      differ = (λ h. grown_apart (tells.differ.0 h), λ none. tells.differ.1 (fewer strings x none));
    }
