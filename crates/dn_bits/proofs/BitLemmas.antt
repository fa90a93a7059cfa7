-- The bits of sums.
use Rattle.std.proofs.Common.{zero, suc, ◌≡◌, ℕ, inl, inr, Bool, true, false, List, [], ◌∷◌, map, length, refl, sym, ap, ◌∙◌, arith}
use Rattle.std.specs.Prelude.{All, Contains}
use Rattle.std.proofs.lemmas.Bool.{cases_Bool, false≢true}
use Rattle.std.proofs.lemmas.List.Elements.{All-head, All-tail}
use Rattle.dn_bits.specs.Bits.{xor, xor_bits, zeros, sum_bits, bit}
use Rattle.dn_bits.specs.XorAll.{xor_all}
use Rattle.dn_bits.proofs.WordLemmas.{length-zeros}
use Rattle.dn_bits.proofs.SumLemmas.{length-xor}

pub here : {A : Type 0} (x : A) (xs : List A) → Contains (x ∷ xs) x
here x xs = (0, omega arith, refl)

pub later : {A : Type 0} (y : A) (xs : List A) (x : A) → Contains xs x → Contains (y ∷ xs) x
later y xs x h = (suc h.0, omega (arith, h.1), h.2)

pub bit-zeros : (n k : ℕ) → bit (zeros n) k ≡ false
bit-zeros zero k = refl
bit-zeros (suc n) zero = refl
bit-zeros (suc n) (suc k) = bit-zeros n k

pub bit-xor : (x y : List Bool) (k : ℕ) → length x ≡ length y → bit (xor_bits x y) k ≡ xor (bit x k) (bit y k)
bit-xor [] [] k e = refl
bit-xor [] (b ∷ y) k e = absurd (omega arith)
bit-xor (a ∷ x) [] k e = absurd (omega arith)
bit-xor (a ∷ x) (b ∷ y) zero e = refl
bit-xor (a ∷ x) (b ∷ y) (suc k) e = bit-xor x y k (omega arith)

abbrev pub IsLong : ℕ → List Bool → Type 0
IsLong n x = length x ≡ n

pub length-sum_all : (n : ℕ) (xs : List (List Bool)) → All (IsLong n) xs → length (sum_bits n xs) ≡ n
length-sum_all n [] all = length-zeros n
length-sum_all n (x ∷ xs) all =
    length-xor x (sum_bits n xs) n (All-head (IsLong n) x xs all) (length-sum_all n xs (All-tail (IsLong n) x xs all))

pub bit-sum : (n : ℕ) (xs : List (List Bool)) (k : ℕ) → All (IsLong n) xs → bit (sum_bits n xs) k ≡ xor_all (map (λ x. bit x k) xs)
bit-sum n [] k all = bit-zeros n k
bit-sum n (x ∷ xs) k all =
    let rest = All-tail (IsLong n) x xs all in
    bit-xor x (sum_bits n xs) k (All-head (IsLong n) x xs all ∙ sym (length-sum_all n xs rest))
    ∙ ap (xor (bit x k)) (bit-sum n xs k rest)

-- a bit that is 1 and not one of the first string's is the second's
of_second : (x y : List Bool) (k : ℕ) → bit x k ≡ false → bit (xor_bits x y) k ≡ true → bit y k ≡ true
of_second [] y k e h = absurd (false≢true h)
of_second (a ∷ x) [] k e h = absurd (false≢true h)
of_second (a ∷ x) (b ∷ y) zero e h = sym (ap (λ z. xor z b) e) ∙ h
of_second (a ∷ x) (b ∷ y) (suc k) e h = of_second x y k e h

-- where a bit of a sum is 1, so is that of a term
pub some_bit : (n : ℕ) (xs : List (List Bool)) (k : ℕ) → bit (sum_bits n xs) k ≡ true → (x : List Bool) × Contains xs x × (bit x k ≡ true)
some_bit n [] k h = absurd (false≢true (sym (bit-zeros n k) ∙ h))
some_bit n (x ∷ xs) k h =
    elim (cases_Bool (bit x k)) [
      | inl e ↦ (x, here x xs, e)
      | inr e ↦ let r = some_bit n xs k (of_second x (sum_bits n xs) k e h) in (r.0, later x xs r.0 r.1, r.2)
    ]
