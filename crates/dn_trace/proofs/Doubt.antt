-- What can't be false.
use Rattle.std.proofs.Common.{◌≡◌, ℕ, zero, suc, ◌<◌, subst, arith, inl, inr}
use Rattle.std.proofs.lemmas.Bool.{cases_lt}

-- what can't be false of each number below m can't be false of all of them
pub of_all_below : (P : ℕ → Type 0) (m : ℕ) → ((j : ℕ) → j < m → ¬ (¬ P j)) → ¬ (¬ ((j : ℕ) → j < m → P j))
of_all_below P zero h never = never (λ j lt. absurd (omega arith))
of_all_below P (suc m) h never =
    of_all_below P m (λ j lt. h j (omega arith)) (λ all. h m (omega arith) (λ here.
    never (λ j lt. elim (cases_lt j m) [
      | inl below ↦ all j below
      | inr ge ↦ let same : m ≡ j = omega arith in subst P same here
    ])))

module _ {A : Type 0} (P : ℕ → A → Type 0) (m : ℕ) (d : A) (h : (j : ℕ) → j < m → (a : A) × P j a) where
  -- a value for each number below m
  abbrev pub chosen : ℕ → A
  chosen j = elim (cases_lt j m) [ inl lt ↦ (h j lt).0 | inr ge ↦ d ]

  pub chosen_is : (j : ℕ) → j < m → P j (chosen j)
  chosen_is j lt = elim (cases_lt j m) as (λ c. P j (elim c [ inl less ↦ (h j less).0 | inr ge ↦ d ])) [
    | inl less ↦ (h j less).1
    | inr ge ↦ absurd (omega arith)
  ]
