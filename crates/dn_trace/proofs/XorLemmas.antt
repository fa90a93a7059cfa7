-- The XOR of many bits.
use Rattle.std.proofs.Common.{◌≡◌, ℕ, zero, suc, ◌+◌, ◌<◌, ◌≤◌, Bool, true, false, cond, eqb, List, [], ◌∷◌, ◌++◌, map, length, get_or, take, refl, sym, ap, ◌∙◌, subst, arith, inl, inr}
use Rattle.std.specs.Prelude.{All, Contains, filter}
use Rattle.std.proofs.lemmas.Bool.{cases_lt, cases_Bool, eq-eqb, ne_eqb, false≢true}
use Rattle.std.proofs.lemmas.List.{map-append, take_more, take_all}
use Rattle.std.proofs.lemmas.List.Elements.{All-head, All-tail}
use Rattle.std.proofs.lemmas.List.FromFn.{map-range_with_len_more}
use Rattle.dn_bits.specs.Bits.{xor, below}
use Rattle.dn_record_types.specs.declared.body.Listed.{Listed}
use Rattle.dn_cert.specs.Trim.{given_to}
use Rattle.dn_bits.specs.XorAll.{xor_all}

pub xor_false : (a : Bool) → xor a false ≡ a
xor_false true = refl
xor_false false = refl

pub xor_assoc : (a b c : Bool) → xor (xor a b) c ≡ xor a (xor b c)
xor_assoc true true true = refl
xor_assoc true true false = refl
xor_assoc true false c = refl
xor_assoc false b c = refl

pub xor_exchange : (a b c d : Bool) → xor (xor a b) (xor c d) ≡ xor (xor a c) (xor b d)
xor_exchange false false c d = refl
xor_exchange false true false d = refl
xor_exchange false true true false = refl
xor_exchange false true true true = refl
xor_exchange true false false false = refl
xor_exchange true false false true = refl
xor_exchange true false true false = refl
xor_exchange true false true true = refl
xor_exchange true true false false = refl
xor_exchange true true false true = refl
xor_exchange true true true false = refl
xor_exchange true true true true = refl

-- two bits differ where their XOR is 1
pub differ_from_xor : (a b : Bool) → xor a b ≡ true → b ≡ a → ⊥
differ_from_xor true true h e = cc
differ_from_xor true false h e = cc
differ_from_xor false true h e = cc
differ_from_xor false false h e = cc

pub xor_from_differ : (a b : Bool) → (b ≡ a → ⊥) → xor a b ≡ true
xor_from_differ true true h = absurd (h refl)
xor_from_differ true false h = refl
xor_from_differ false true h = refl
xor_from_differ false false h = absurd (h refl)

pub xor_all-append : (xs ys : List Bool) → xor_all (xs ++ ys) ≡ xor (xor_all xs) (xor_all ys)
xor_all-append [] ys = refl
xor_all-append (x ∷ xs) ys = ap (xor x) (xor_all-append xs ys) ∙ sym (xor_assoc x (xor_all xs) (xor_all ys))

pub xor_all-of_false : {X : Type 0} (xs : List X) → xor_all (map (λ x. false) xs) ≡ false
xor_all-of_false [] = refl
xor_all-of_false (x ∷ xs) = xor_all-of_false xs

pub xor_all-of_xor : {X : Type 0} (f g : X → Bool) (xs : List X)
    → xor_all (map (λ x. xor (f x) (g x)) xs) ≡ xor (xor_all (map f xs)) (xor_all (map g xs))
xor_all-of_xor f g [] = refl
xor_all-of_xor f g (x ∷ xs) = ap (xor (xor (f x) (g x))) (xor_all-of_xor f g xs) ∙ xor_exchange (f x) (g x) (xor_all (map f xs)) (xor_all (map g xs))

-- the order of two sums is free
pub xor_all-swap : {X Y : Type 0} (f : X → Y → Bool) (xs : List X) (ys : List Y)
    → xor_all (map (λ x. xor_all (map (f x) ys)) xs) ≡ xor_all (map (λ y. xor_all (map (λ x. f x y) xs)) ys)
xor_all-swap f [] ys = sym (xor_all-of_false ys)
xor_all-swap f (x ∷ xs) ys =
    ap (xor (xor_all (map (f x) ys))) (xor_all-swap f xs ys) ∙ sym (xor_all-of_xor (f x) (λ y. xor_all (map (λ x'. f x' y) xs)) ys)

-- a sum that is 1 has a term that is 1
pub some_true : {X : Type 0} (f : X → Bool) (xs : List X) → xor_all (map f xs) ≡ true → (x : X) × Contains xs x × (f x ≡ true)
some_true f [] h = absurd (false≢true h)
some_true f (x ∷ xs) h =
    elim (cases_Bool (f x)) [
      | inl e ↦ (x, (0, omega arith, refl), e)
      | inr e ↦
          let rest : xor_all (map f xs) ≡ true = sym (ap (λ b. xor b (xor_all (map f xs))) e) ∙ h in
          let r = some_true f xs rest in
          (r.0, (suc r.1.0, omega (arith, r.1.1), r.1.2), r.2)
    ]

pub xor_all-filter : {X : Type 0} (p f : X → Bool) (xs : List X) → xor_all (map f (filter p xs)) ≡ xor_all (map (λ x. cond (p x) (f x) false) xs)
xor_all-filter p f [] = refl
xor_all-filter p f (x ∷ xs) =
    let P : Bool → Type 0 = λ b. xor_all (map f (cond b (x ∷ filter p xs) (filter p xs))) ≡ xor (cond b (f x) false) (xor_all (map (λ y. cond (p y) (f y) false) xs)) in
    elim (cases_Bool (p x)) [
      | inl e ↦ subst P (sym e) (ap (xor (f x)) (xor_all-filter p f xs))
      | inr e ↦ subst P (sym e) (xor_all-filter p f xs)
    ]

-- sums over the numbers below m
pub xor_all-below_more : (f : ℕ → Bool) (m : ℕ) → xor_all (map f (below (m + 1))) ≡ xor (xor_all (map f (below m))) (f m)
xor_all-below_more f m =
    ap xor_all (map-range_with_len_more f 0 m m (omega arith)) ∙ xor_all-append (map f (below m)) (f m ∷ []) ∙ ap (xor (xor_all (map f (below m)))) (xor_false (f m))

pub xor_all-same_below : (f g : ℕ → Bool) (m : ℕ) → ((j : ℕ) → j < m → f j ≡ g j) → xor_all (map f (below m)) ≡ xor_all (map g (below m))
xor_all-same_below f g zero same = refl
xor_all-same_below f g (suc m) same =
    let one_more : suc m ≡ m + 1 = omega arith in
    ap (λ n. xor_all (map f (below n))) one_more ∙ xor_all-below_more f m
    ∙ (λ i. xor (xor_all-same_below f g m (λ j lt. same j (omega arith)) i) (same m (omega arith) i))
    ∙ sym (ap (λ n. xor_all (map g (below n))) one_more ∙ xor_all-below_more g m)

-- only the term at s may be 1
at_none : (b : Bool) (s m : ℕ) → m ≤ s → xor_all (map (λ j. cond (eqb s j) b false) (below m)) ≡ false
at_none b s zero le = refl
at_none b s (suc m) le =
    let one_more : suc m ≡ m + 1 = omega arith in
    ap (λ n. xor_all (map (λ j. cond (eqb s j) b false) (below n))) one_more ∙ xor_all-below_more (λ j. cond (eqb s j) b false) m
    ∙ rw (ne_eqb s m (λ e. omega arith), at_none b s m (omega arith)) refl

at_one : (b : Bool) (s m : ℕ) → s < m → xor_all (map (λ j. cond (eqb s j) b false) (below m)) ≡ b
at_one b s zero lt = absurd (omega arith)
at_one b s (suc m) lt =
    let one_more : suc m ≡ m + 1 = omega arith in
    ap (λ n. xor_all (map (λ j. cond (eqb s j) b false) (below n))) one_more ∙ xor_all-below_more (λ j. cond (eqb s j) b false) m
    ∙ elim (cases_lt s m) [
      | inl less ↦ rw (ne_eqb s m (λ e. omega arith), at_one b s m less) (xor_false b)
      | inr ge ↦ let same : s ≡ m = omega arith in rw (at_none b s m (omega arith), eq-eqb s m same) refl
    ]

each_part : (f : Listed → Bool) (listed : List Listed) (m : ℕ) → All (λ l. l.server.0 < m) listed
    → xor_all (map (λ l. xor_all (map (λ j. cond (eqb l.server.0 j) (f l) false) (below m))) listed) ≡ xor_all (map f listed)
each_part f [] m all = refl
each_part f (l ∷ listed) m all =
    let here : l.server.0 < m = All-head (λ (x : Listed). x.server.0 < m) l listed all in
    rw (at_one (f l) l.server.0 m here) (ap (xor (f l)) (each_part f listed m (All-tail (λ (x : Listed). x.server.0 < m) l listed all)))

-- a sum over a list is the sum over the servers of the sums over what the list gives to each
pub xor_all-parts : (f : Listed → Bool) (listed : List Listed) (m : ℕ) → All (λ l. l.server.0 < m) listed
    → xor_all (map f listed) ≡ xor_all (map (λ j. xor_all (map f (given_to listed j))) (below m))
xor_all-parts f listed m all =
    sym (each_part f listed m all)
    ∙ xor_all-swap (λ l j. cond (eqb l.server.0 j) (f l) false) listed (below m)
    ∙ xor_all-same_below (λ j. xor_all (map (λ l. cond (eqb l.server.0 j) (f l) false) listed)) (λ j. xor_all (map f (given_to listed j))) m
    (λ j lt. sym (xor_all-filter (λ l. eqb l.server.0 j) f listed))

-- a sum with one element more
pub xor_all-take_more : {X : Type 0} (f : X → Bool) (xs : List X) (i : ℕ) (d : X) → i < length xs
    → xor_all (map f (take (i + 1) xs)) ≡ xor (xor_all (map f (take i xs))) (f (get_or xs i d))
xor_all-take_more f xs i d lt =
    ap (λ l. xor_all (map f l)) (take_more xs i d lt) ∙ ap xor_all (map-append f (take i xs) (get_or xs i d ∷ []))
    ∙ xor_all-append (map f (take i xs)) (f (get_or xs i d) ∷ []) ∙ ap (xor (xor_all (map f (take i xs)))) (xor_false (f (get_or xs i d)))

pub xor_all-take_all : {X : Type 0} (f : X → Bool) (xs : List X) (i : ℕ) → length xs ≤ i → xor_all (map f (take i xs)) ≡ xor_all (map f xs)
xor_all-take_all f xs i le = ap (λ l. xor_all (map f l)) (take_all i xs le)
