-- Sums of lists of strings of one length.
use Rattle.std.proofs.Common.{◌≡◌, ℕ, zero, suc, zero-add, refl, ◌+◌, ◌<◌, Bool, List, [], ◌∷◌, ◌++◌, length, take, drop, get_or, sym, ap, ◌∙◌, arith, ◌*◌, ◌/◌, ◌%◌, ◌≤◌, min, subst, inl, inr}
use Rattle.std.specs.Prelude.{All, Result, Ok}
use Rattle.std.proofs.Math.Nat.{mod-lt, add-mul, one-mul}
use Rattle.std.proofs.lemmas.Nat.{div-add-mod'}
use Rattle.std.proofs.lemmas.Bool.{cases_lt}
use Rattle.dn_memory.specs.declared.NoMemory.{NoMemory}
use Rattle.std.proofs.lemmas.List.{take_more}
use Rattle.std.specs.Fork.{slice_chunk}
use Rattle.std.proofs.lemmas.List.Elements.{All-head, All-tail, All-take, All-cons, All-nil, All-map}
use Rattle.dn_bits.specs.Bits.{xor_bits, sum_bits, below}
use Rattle.dn_bits.proofs.WordLemmas.{length-zeros}
use Rattle.dn_bits.proofs.SumLemmas.{xor_assoc, xor_comm, xor_zeros, zeros_xor, length-xor}
use Rattle.dn_pads.specs.Pads.{pad_of, keystream_bit}
use Rattle.dn_combine.specs.Parts.{pads_of, IsPart, ArePartsOf}
use Rattle.std.proofs.lemmas.List.{length-map, map-append}
use Rattle.std.proofs.lemmas.List.FromFn.{length-range_with_len}

abbrev pub Long : ℕ → List Bool → Type 0
Long n x = length x ≡ n

pub length-sum_all : (n : ℕ) (xs : List (List Bool)) → All (Long n) xs → length (sum_bits n xs) ≡ n
length-sum_all n [] h = length-zeros n
length-sum_all n (x ∷ xs) h = length-xor x (sum_bits n xs) n (All-head (Long n) x xs h) (length-sum_all n xs (All-tail (Long n) x xs h))

pub sum_all-append : (n : ℕ) (xs ys : List (List Bool)) → All (Long n) xs → All (Long n) ys
    → sum_bits n (xs ++ ys) ≡ xor_bits (sum_bits n xs) (sum_bits n ys)
sum_all-append n [] ys h g = sym (zeros_xor (sum_bits n ys) n (length-sum_all n ys g))
sum_all-append n (x ∷ xs) ys h g =
    ap (xor_bits x) (sum_all-append n xs ys (All-tail (Long n) x xs h) g) ∙ sym (xor_assoc x (sum_bits n xs) (sum_bits n ys))

-- one string more
pub sum_all-more : (n : ℕ) (s : List Bool) (xs : List (List Bool)) (i : ℕ) (d : List Bool) → length s ≡ n → All (Long n) xs → i < length xs
    → xor_bits (xor_bits s (sum_bits n (take i xs))) (get_or xs i d) ≡ xor_bits s (sum_bits n (take (i + 1) xs))
sum_all-more n s xs i d long h lt =
    let last : All (Long n) (get_or xs i d ∷ []) = All-cons (Long n) (get_or xs i d) [] (h i d lt) (All-nil (Long n)) in
    xor_assoc s (sum_bits n (take i xs)) (get_or xs i d)
    ∙ ap (xor_bits s)
    (ap (xor_bits (sum_bits n (take i xs))) (sym (xor_zeros (get_or xs i d) n (h i d lt)))
    ∙ sym (sum_all-append n (take i xs) (get_or xs i d ∷ []) (All-take (Long n) i xs h) last)
    ∙ ap (sum_bits n) (sym (take_more xs i d lt)))

pub length-more : (n : ℕ) (s : List Bool) (xs : List (List Bool)) → length s ≡ n → All (Long n) xs → length (xor_bits s (sum_bits n xs)) ≡ n
length-more n s xs long h = length-xor s (sum_bits n xs) n long (length-sum_all n xs h)

pub length-pad : (seed : List ℕ) (r n : ℕ) → length (pad_of seed r n) ≡ n
length-pad seed r n = length-map (below n) (keystream_bit seed r) ∙ length-range_with_len 0 n

pub pads_long : (seeds : List (List ℕ)) (r n : ℕ) → All (Long n) (pads_of seeds r n)
pads_long seeds r n = All-map (Long n) (λ s. pad_of s r n) seeds (λ k d lt. length-pad (get_or seeds k d) r n)

-- one pad more
pub pads-more : (n : ℕ) (s : List Bool) (seeds : List (List ℕ)) (r i : ℕ) (d : List ℕ) → length s ≡ n → i < length seeds
    → xor_bits (xor_bits s (sum_bits n (pads_of (take i seeds) r n))) (pad_of (get_or seeds i d) r n) ≡ xor_bits s (sum_bits n (pads_of (take (i + 1) seeds) r n))
pads-more n s seeds r i d long lt =
    let one = pad_of (get_or seeds i d) r n in
    let last : All (Long n) (one ∷ []) = All-cons (Long n) one [] (length-pad (get_or seeds i d) r n) (All-nil (Long n)) in
    xor_assoc s (sum_bits n (pads_of (take i seeds) r n)) one
    ∙ ap (xor_bits s)
    (ap (xor_bits (sum_bits n (pads_of (take i seeds) r n))) (sym (xor_zeros one n (length-pad (get_or seeds i d) r n)))
    ∙ sym (sum_all-append n (pads_of (take i seeds) r n) (one ∷ []) (pads_long (take i seeds) r n) last)
    ∙ ap (sum_bits n) (sym (map-append (λ x. pad_of x r n) (take i seeds) (get_or seeds i d ∷ [])) ∙ ap (λ l. pads_of l r n) (sym (take_more seeds i d lt))))

-- the pads and the strings in one list
pub sum-both : (n r : ℕ) (seeds : List (List ℕ)) (held : List (List Bool)) → All (Long n) held
    → xor_bits (sum_bits n held) (sum_bits n (pads_of seeds r n)) ≡ sum_bits n (pads_of seeds r n ++ held)
sum-both n r seeds held h =
    xor_comm (sum_bits n held) (sum_bits n (pads_of seeds r n)) ∙ sym (sum_all-append n (pads_of seeds r n) held (pads_long seeds r n) h)

take-nil : {X : Type 0} (n : ℕ) → take n (let none : List X = [] in none) ≡ []
take-nil zero = refl
take-nil (suc n) = refl

-- a front of a list, and the one that goes on from there
pub take-then : {X : Type 0} (n m : ℕ) (xs : List X) → take n xs ++ take m (drop n xs) ≡ take (n + m) xs
take-then zero m xs = ap (λ k. take k xs) (sym (zero-add m))
take-then (suc n) m [] = take-nil m ∙ sym (take-nil (suc n + m))
take-then (suc n) m (x ∷ xs) =
    let up : suc n + m ≡ suc (n + m) = omega arith in
    ap (λ l. x ∷ l) (take-then n m xs) ∙ sym (ap (λ k. take k (x ∷ xs)) up)

-- one part more
pub parts-more : (n : ℕ) (s : List Bool) (seeds : List (List ℕ)) (r k size : ℕ) (part : List Bool) → length s ≡ n
    → part ≡ sum_bits n (pads_of (slice_chunk seeds size k) r n)
    → xor_bits (xor_bits s (sum_bits n (pads_of (take (k * size) seeds) r n))) part ≡ xor_bits s (sum_bits n (pads_of (take ((k + 1) * size) seeds) r n))
parts-more n s seeds r k size part long is =
    let front = take (k * size) seeds in
    let chunk = slice_chunk seeds size k in
    let up : k * size + size ≡ (k + 1) * size = omega arith in
    xor_assoc s (sum_bits n (pads_of front r n)) part
    ∙ ap (xor_bits s)
    (ap (xor_bits (sum_bits n (pads_of front r n))) is
    ∙ sym (sum_all-append n (pads_of front r n) (pads_of chunk r n) (pads_long front r n) (pads_long chunk r n))
    ∙ ap (sum_bits n) (sym (map-append (λ x. pad_of x r n) front chunk))
    ∙ ap (λ (l : List (List ℕ)). sum_bits n (pads_of l r n)) (take-then (k * size) size seeds ∙ ap (λ m. take m seeds) up))

-- so many parts, of which the last may be shorter, reach to the end
pub reaches : (count long size : ℕ) → 0 < size → count ≡ long / size + min 1 (long % size) → long ≤ count * size
reaches count long size some is =
    let q = long / size in
    let m = long % size in
    let whole : q * size + m ≡ long = div-add-mod' long size in
    let below : m < size = mod-lt long some in
    elim (cases_lt 0 m) [
      | inl lt ↦ let e : count ≡ q + 1 = omega arith in let w = ap (λ n. n * size) e ∙ add-mul q 1 size in omega (arith, w, whole, below, one-mul size)
      | inr ge ↦ let e : count ≡ q = omega arith in let w = ap (λ n. n * size) e in omega (arith, w, whole)
    ]

-- what the worker of part k gave
pub part_is : (seeds : List (List ℕ)) (r n size k : ℕ) (parts : List (Result (List Bool) NoMemory)) (part : List Bool) (d : Result (List Bool) NoMemory)
    → ArePartsOf seeds r n size parts → k < length parts → get_or parts k d ≡ Ok part → part ≡ sum_bits n (pads_of (slice_chunk seeds size k) r n)
part_is seeds r n size k parts part d are lt e =
    subst (λ (p : Result (List Bool) NoMemory). IsPart (slice_chunk seeds size k) r n p) e (are k d lt)
