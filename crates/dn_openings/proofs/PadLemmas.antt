-- Bits that are set one by one.
use Rattle.std.proofs.Common.{◌≡◌, ℕ, Bool, true, false, not, List, map, length, cond, refl, sym, ap, ◌∙◌, arith, inl, inr}
use Rattle.std.specs.Prelude.{◌==◌, ◌||◌}
use Rattle.std.specs.Bool.{beq}
use Rattle.std.proofs.lemmas.Bool.{false≢true, eq-eqb}
use Rattle.std.proofs.lemmas.Bool.Decides.{eqb_tells}
use Rattle.std.proofs.lemmas.List.{length-replicate}
use Rattle.std.proofs.lemmas.List.FromFn.{fill_by_all, get_or-map-range_with_len, length-map-range_with_len}
use Rattle.dn_bits.specs.Bits.{below, bit, flip_at, zeros}
use Rattle.dn_bits.proofs.WordLemmas.{same_bits}
use Rattle.dn_bits.proofs.BitLemmas.{bit-zeros}

-- a bit is turned where it differs
pub turned : (old : List Bool) (i : ℕ) (value : Bool) → (bit old i ≡ value → ⊥)
    → flip_at old i ≡ map (λ j. cond (j == i) value (bit old j)) (below (length old))
turned old i value differ =
    same_bits (λ j. cond (j == i) (not (bit old j)) (bit old j)) (λ j. cond (j == i) value (bit old j)) (length old)
    (λ j lt. elim (eqb_tells j i) [
      | inl same ↦
          ap (λ t. cond t (not (bit old j)) (bit old j)) same.0 ∙ other (bit old j) value (λ e. differ (ap (bit old) (sym same.1) ∙ e))
          ∙ sym (ap (λ t. cond t value (bit old j)) same.0)
      | inr apart ↦ ap (λ t. cond t (not (bit old j)) (bit old j)) apart.0 ∙ sym (ap (λ t. cond t value (bit old j)) apart.0)
    ])
  where
    other : (a b : Bool) → (a ≡ b → ⊥) → not a ≡ b
    other true true n = absurd (n refl)
    other true false n = refl
    other false true n = refl
    other false false n = absurd (n refl)

-- and stays where it doesn't
pub stays : (old : List Bool) (i : ℕ) (value : Bool) → bit old i ≡ value → old ≡ map (λ j. cond (j == i) value (bit old j)) (below (length old))
stays old i value is =
    fill_by_all (λ j. cond (j == i) value (bit old j)) old (length old) false refl
    (λ j lt. elim (eqb_tells j i) [
      | inl same ↦ ap (bit old) same.1 ∙ is ∙ sym (ap (λ t. cond t value (bit old j)) same.0)
      | inr apart ↦ sym (ap (λ t. cond t value (bit old j)) apart.0)
    ])

-- one more is set
pub set_more : (n : ℕ) (listed now f : ℕ → Bool) (c : ℕ) (value : Bool) (old new : List Bool) → old ≡ map (λ i. cond (listed i) (f i) false) (below n)
    → new ≡ map (λ j. cond (j == c) value (bit old j)) (below (length old)) → value ≡ f c → ((j : ℕ) → now j ≡ (listed j || (c == j)))
    → new ≡ map (λ i. cond (now i) (f i) false) (below n)
set_more n listed now f c value old new was is fits more =
    let g : ℕ → Bool = λ i. cond (listed i) (f i) false in
    let long : length old ≡ n = ap length was ∙ length-map-range_with_len g 0 n in
    is ∙ ap (λ m. map (λ j. cond (j == c) value (bit old j)) (below m)) long
    ∙ same_bits (λ j. cond (j == c) value (bit old j)) (λ i. cond (now i) (f i) false) n
    (λ j lt. elim (eqb_tells j c) [
      | inl same ↦
          let there : now j ≡ true = more j ∙ ap (λ t. listed j || t) (eq-eqb c j (sym same.1)) ∙ or_true (listed j) in
          ap (λ t. cond t value (bit old j)) same.0 ∙ fits ∙ ap f (sym same.1) ∙ sym (ap (λ t. cond t (f j) false) there)
      | inr apart ↦
          let there : now j ≡ listed j = more j ∙ ap (λ t. listed j || t) (unequal c j (λ e. apart.1 (sym e))) ∙ or_false (listed j) in
          ap (λ t. cond t value (bit old j)) apart.0 ∙ ap (λ l. bit l j) was ∙ get_or-map-range_with_len g 0 n j j false lt (omega arith)
          ∙ sym (ap (λ t. cond t (f j) false) there)
    ])
  where
    or_true : (b : Bool) → (b || true) ≡ true
    or_true true = refl
    or_true false = refl

    or_false : (b : Bool) → (b || false) ≡ b
    or_false true = refl
    or_false false = refl

    unequal : (a b : ℕ) → (a ≡ b → ⊥) → (a == b) ≡ false
    unequal a b n = elim (eqb_tells a b) [ inl same ↦ absurd (n same.1) | inr apart ↦ apart.0 ]

-- none is set
pub set_none : (n : ℕ) (f : ℕ → Bool) → zeros n ≡ map (λ i. cond false (f i) false) (below n)
set_none n f = fill_by_all (λ i. cond false (f i) false) (zeros n) n false length-zeros (λ k lt. bit-zeros n k)
  where
    length-zeros : length (zeros n) ≡ n
    length-zeros = length-replicate n false

-- bits that don't differ are one
pub same_bit : (a b : Bool) → not (beq a b) ≡ false → a ≡ b
same_bit true true h = refl
same_bit true false h = absurd (false≢true (sym h))
same_bit false true h = absurd (false≢true (sym h))
same_bit false false h = refl
