-- Sums of strings that the elements of a list give: joined, exchanged, parted, and with what adds nothing left out.
use Rattle.std.proofs.Common.{◌≡◌, ℕ, zero, suc, ◌+◌, ◌<◌, ◌≤◌, inl, inr, Bool, false, cond, List, [], ◌∷◌, ◌++◌, map, length, refl, ap, sym, ◌∙◌, arith}
use Rattle.std.specs.Prelude.{Contains, filter, ◌==◌}
use Rattle.std.specs.List.{range_with_len}
use Rattle.std.proofs.lemmas.List.Elements.{All-contains, All-filter, All-contains_itself}
use Rattle.std.proofs.lemmas.Bool.{cases_eq, cases_Bool, eq-eqb, ne_eqb}
use Rattle.dn_bits.specs.Bits.{xor_bits, zeros, sum_bits, below}
use Rattle.dn_bits.proofs.WordLemmas.{length-zeros}
use Rattle.dn_bits.proofs.SumLemmas.{xor_assoc, zeros_xor, xor_zeros, length-xor, xor_exchange}
use Rattle.dn_bits.proofs.BitLemmas.{here, later}

-- the sum of the strings that a list's elements give
abbrev pub total : {A : Type 0} → ℕ → (A → List Bool) → List A → List Bool
total n f xs = sum_bits n (map f xs)

pub length-total : {A : Type 0} (n : ℕ) (f : A → List Bool) (xs : List A) → ((x : A) → Contains xs x → length (f x) ≡ n) → length (total n f xs) ≡ n
length-total n f [] each = length-zeros n
length-total n f (x ∷ xs) each = length-xor (f x) (total n f xs) n (each x (here x xs)) (length-total n f xs (λ y h. each y (later x xs y h)))

-- the strings may be given anew
pub same_total : {A : Type 0} (n : ℕ) (f g : A → List Bool) (xs : List A) → ((x : A) → Contains xs x → f x ≡ g x) → total n f xs ≡ total n g xs
same_total n f g [] same = refl
same_total n f g (x ∷ xs) same = λ i. xor_bits (same x (here x xs) i) (same_total n f g xs (λ y h. same y (later x xs y h)) i)

pub total_of_xor : {A : Type 0} (n : ℕ) (f g : A → List Bool) (xs : List A) → total n (λ x. xor_bits (f x) (g x)) xs ≡ xor_bits (total n f xs) (total n g xs)
total_of_xor n f g [] = sym (zeros_xor (zeros n) n (length-zeros n))
total_of_xor n f g (x ∷ xs) =
    ap (xor_bits (xor_bits (f x) (g x))) (total_of_xor n f g xs) ∙ xor_exchange (f x) (g x) (total n f xs) (total n g xs)

pub total_of_zeros : {A : Type 0} (n : ℕ) (xs : List A) → total n (λ x. zeros n) xs ≡ zeros n
total_of_zeros n [] = refl
total_of_zeros n (x ∷ xs) = ap (xor_bits (zeros n)) (total_of_zeros n xs) ∙ zeros_xor (zeros n) n (length-zeros n)

-- the order of two sums is free
pub total_swap : {A B : Type 0} (n : ℕ) (f : A → B → List Bool) (xs : List A) (ys : List B)
    → total n (λ y. total n (λ x. f x y) xs) ys ≡ total n (λ x. total n (f x) ys) xs
total_swap n f [] ys = total_of_zeros n ys
total_swap n f (x ∷ xs) ys =
    total_of_xor n (f x) (λ y. total n (λ x. f x y) xs) ys ∙ ap (xor_bits (total n (f x) ys)) (total_swap n f xs ys)

-- the sum of two lists joined
pub sum-joined : (n : ℕ) (xs ys : List (List Bool)) → length (sum_bits n ys) ≡ n → sum_bits n (xs ++ ys) ≡ xor_bits (sum_bits n xs) (sum_bits n ys)
sum-joined n [] ys long = sym (zeros_xor (sum_bits n ys) n long)
sum-joined n (x ∷ xs) ys long = ap (xor_bits x) (sum-joined n xs ys long) ∙ sym (xor_assoc x (sum_bits n xs) (sum_bits n ys))

-- what adds nothing may be left out
pub total_filter : {A : Type 0} (n : ℕ) (f : A → List Bool) (p : A → Bool) (xs : List A) → ((x : A) → Contains xs x → length (f x) ≡ n)
    → ((x : A) → Contains xs x → p x ≡ false → f x ≡ zeros n) → total n f xs ≡ total n f (filter p xs)
total_filter n f p [] long none = refl
total_filter n f p (x ∷ xs) long none =
    let rest = total_filter n f p xs (λ y h. long y (later x xs y h)) (λ y h. none y (later x xs y h)) in
    let whole = length-total n f xs (λ y h. long y (later x xs y h)) in
    elim (cases_Bool (p x)) [
      | inl does ↦ rw does (ap (xor_bits (f x)) rest)
      | inr fails ↦ rw fails (ap (λ z. xor_bits z (total n f xs)) (none x (here x xs) fails) ∙ zeros_xor (total n f xs) n whole ∙ rest)
    ]

-- ---- a part for each number below a bound

-- the string at number p, and zeros at others
abbrev only_at : ℕ → ℕ → List Bool → ℕ → List Bool
only_at n p v j = cond (p == j) v (zeros n)

none_at : (n p : ℕ) (v : List Bool) (a k : ℕ) → p < a → total n (only_at n p v) (range_with_len a k) ≡ zeros n
none_at n p v a zero lt = refl
none_at n p v a (suc k) lt =
    let other : (p == a) ≡ false = ne_eqb p a (λ e. omega arith) in
    rw other (ap (xor_bits (zeros n)) (none_at n p v (a + 1) k (omega arith)) ∙ zeros_xor (zeros n) n (length-zeros n))

once_at : (n p : ℕ) (v : List Bool) (a k : ℕ) → length v ≡ n → a ≤ p → p < a + k → total n (only_at n p v) (range_with_len a k) ≡ v
once_at n p v a zero long le lt = absurd (omega arith)
once_at n p v a (suc k) long le lt =
    elim (cases_eq p a) [
      | inl e ↦ rw (eq-eqb p a e) (ap (xor_bits v) (none_at n p v (a + 1) k (omega arith)) ∙ xor_zeros v n long)
      | inr ne ↦ rw (ne_eqb p a ne) (ap (xor_bits (zeros n)) (once_at n p v (a + 1) k long (omega (arith, ne)) (omega arith)) ∙ zeros_xor v n long)
    ]

-- what a filter keeps was there
pub kept : {A : Type 0} (p : A → Bool) (xs : List A) (x : A) → Contains (filter p xs) x → Contains xs x
kept p xs x h = All-contains (Contains xs) (filter p xs) x (All-filter p (Contains xs) xs (All-contains_itself xs)) h

module _ {A : Type 0} (n : ℕ) (f : A → List Bool) (place : A → ℕ) where
  abbrev part_at : List A → ℕ → List Bool
  part_at xs j = total n f (filter (λ x. place x == j) xs)

  part_more : (x : A) (xs : List A) (j : ℕ) → length (part_at xs j) ≡ n → part_at (x ∷ xs) j ≡ xor_bits (only_at n (place x) (f x) j) (part_at xs j)
  part_more x xs j long =
      elim (cases_Bool (place x == j)) [
        | inl does ↦ rw does refl
        | inr fails ↦ rw fails (sym (zeros_xor (part_at xs j) n long))
      ]

  -- the parts of a list, one for each number below m, make its sum
  pub total_parts : (m : ℕ) (xs : List A) → ((x : A) → Contains xs x → length (f x) ≡ n) → ((x : A) → Contains xs x → place x < m)
      → total n (λ j. total n f (filter (λ x. place x == j) xs)) (below m) ≡ total n f xs
  total_parts m [] long within = total_of_zeros n (below m)
  total_parts m (x ∷ xs) long within =
      let rest = total_parts m xs (λ y h. long y (later x xs y h)) (λ y h. within y (later x xs y h)) in
      let each : (j : ℕ) → length (part_at xs j) ≡ n = λ j. length-total n f (filter (λ y. place y == j) xs)
      (λ y h. long y (later x xs y (kept (λ z. place z == j) xs y h))) in
      let first = within x (here x xs) in
      let lt : place x < 0 + m = omega arith in
      same_total n (part_at (x ∷ xs)) (λ j. xor_bits (only_at n (place x) (f x) j) (part_at xs j)) (below m) (λ j h. part_more x xs j (each j))
      ∙ total_of_xor n (only_at n (place x) (f x)) (part_at xs) (below m)
      ∙ (λ i. xor_bits (once_at n (place x) (f x) 0 m (long x (here x xs)) (omega arith) lt i) (rest i))
