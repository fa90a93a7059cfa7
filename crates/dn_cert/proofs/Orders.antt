-- Lists in order of their clients.
use Rattle.std.proofs.Common.{◌≡◌, ℕ, zero, suc, ◌+◌, ◌<◌, ◌≤◌, ◌⊎◌, inl, inr, List, [], ◌∷◌, map, length, get_or, refl, ap, sym, subst, ◌∙◌, arith}
use Rattle.std.specs.List.{All, Contains}
use Rattle.std.proofs.lemmas.List.Elements.{Contains-get_or}
use Rattle.dn_wire.specs.declared.ids.ClientId.{ClientId}
use Rattle.dn_records.specs.Lists.{AscendFrom}

-- ---- what a list contains

pub here : {A : Type 0} (x : A) (xs : List A) → Contains (x ∷ xs) x
here x xs = (0, omega arith, refl)

pub later : {A : Type 0} (y : A) (xs : List A) (x : A) → Contains xs x → Contains (y ∷ xs) x
later y xs x h = (suc h.0, omega (arith, h.1), h.2)

at_place : {A : Type 0} (y : A) (xs : List A) (x : A) (k : ℕ) → k < length (y ∷ xs) → get_or (y ∷ xs) k x ≡ x → (y ≡ x) ⊎ Contains xs x
at_place y xs x zero lt h = inl h
at_place y xs x (suc k) lt h = inr (k, omega arith, h)

pub first_or_later : {A : Type 0} (y : A) (xs : List A) (x : A) → Contains (y ∷ xs) x → (y ≡ x) ⊎ Contains xs x
first_or_later y xs x h = at_place y xs x h.0 h.1 h.2

pub nothing : {A : Type 0} (x : A) → Contains [] x → ⊥
nothing x h = omega (arith, h.1)

pub All-from_contains : {A : Type 0} (P : A → Type 0) (xs : List A) → ((x : A) → Contains xs x → P x) → All P xs
All-from_contains P xs each = λ k d lt. each (get_or xs k d) (Contains-get_or xs k d lt)

-- ---- clients

pub same_client : (i k : ClientId) → i.0 ≡ k.0 → i ≡ k
same_client i k h = let c : ℕ → ClientId = λ n. record { 0 = n } in ap c h

module _ {A : Type 0} (key : A → ClientId) where
  -- none is below the floor
  pub above_floor : (floor : ℕ) (xs : List A) (x : A) → AscendFrom floor (map key xs) → Contains xs x → floor ≤ (key x).0
  above_floor floor [] x up h = absurd (nothing x h)
  above_floor floor (y ∷ ys) x up h =
      elim (first_or_later y ys x h) [
        | inl e ↦ subst (λ (z : A). floor ≤ (key z).0) e up.0
        | inr behind ↦ let past = above_floor ((key y).0 + 1) ys x up.1 behind in omega (arith, up.0, past)
      ]

  -- those with one client are one
  pub one_each : (floor : ℕ) (xs : List A) (x y : A) → AscendFrom floor (map key xs) → Contains xs x → Contains xs y → key x ≡ key y → x ≡ y
  one_each floor [] x y up hx hy same = absurd (nothing x hx)
  one_each floor (z ∷ zs) x y up hx hy same =
      let one : (key x).0 ≡ (key y).0 = ap (λ (i : ClientId). i.0) same in
      elim (first_or_later z zs x hx) [
        | inl ex ↦ elim (first_or_later z zs y hy) [
          | inl ey ↦ sym ex ∙ ey
          | inr behind ↦
              let past = above_floor ((key z).0 + 1) zs y up.1 behind in
              let first : (key z).0 ≡ (key x).0 = ap (λ (w : A). (key w).0) ex in
              absurd (omega (arith, past, first, one))
        ]
        | inr later_x ↦ elim (first_or_later z zs y hy) [
          | inl ey ↦
              let past = above_floor ((key z).0 + 1) zs x up.1 later_x in
              let first : (key z).0 ≡ (key y).0 = ap (λ (w : A). (key w).0) ey in
              absurd (omega (arith, past, first, one))
          | inr later_y ↦ one_each ((key z).0 + 1) zs x y up.1 later_x later_y same
        ]
      ]

  -- what stands behind the first stays in the other list's rest
  rest_within : (x y : A) (xs ys : List A) → AscendFrom ((key x).0 + 1) (map key xs) → x ≡ y
      → ((z : A) → Contains (x ∷ xs) z → Contains (y ∷ ys) z) → (z : A) → Contains xs z → Contains ys z
  rest_within x y xs ys up e sub z h =
      elim (first_or_later y ys z (sub z (later x xs z h))) [
        | inl first ↦
            let past = above_floor ((key x).0 + 1) xs z up h in
            let same : (key x).0 ≡ (key z).0 = ap (λ (w : A). (key w).0) (e ∙ first) in
            absurd (omega (arith, past, same))
        | inr behind ↦ behind
      ]

  first_is : (x y : A) (xs ys : List A) → AscendFrom ((key x).0 + 1) (map key xs) → AscendFrom ((key y).0 + 1) (map key ys)
      → Contains (y ∷ ys) x → Contains (x ∷ xs) y → x ≡ y
  first_is x y xs ys ux uy hx hy =
      elim (first_or_later y ys x hx) [
        | inl e ↦ sym e
        | inr behind_y ↦ elim (first_or_later x xs y hy) [
          | inl e ↦ e
          | inr behind_x ↦
              let a = above_floor ((key y).0 + 1) ys x uy behind_y in
              let b = above_floor ((key x).0 + 1) xs y ux behind_x in
              absurd (omega (arith, a, b))
        ]
      ]

  -- two lists in order that contain the same are one
  pub same_members : (f g : ℕ) (xs ys : List A) → AscendFrom f (map key xs) → AscendFrom g (map key ys)
      → ((z : A) → Contains xs z → Contains ys z) → ((z : A) → Contains ys z → Contains xs z) → xs ≡ ys
  same_members f g [] [] ux uy sub sup = refl
  same_members f g [] (y ∷ ys) ux uy sub sup = absurd (nothing y (sup y (here y ys)))
  same_members f g (x ∷ xs) [] ux uy sub sup = absurd (nothing x (sub x (here x xs)))
  same_members f g (x ∷ xs) (y ∷ ys) ux uy sub sup =
      let e = first_is x y xs ys ux.1 uy.1 (sub x (here x xs)) (sup y (here y ys)) in
      let rest = same_members ((key x).0 + 1) ((key y).0 + 1) xs ys ux.1 uy.1 (rest_within x y xs ys ux.1 e sub) (rest_within y x ys xs uy.1 (sym e) sup) in
      cc
