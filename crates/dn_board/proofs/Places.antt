-- The place of the last post under a number.
use Rattle.std.proofs.Common.{◌≡◌, ℕ, zero, suc, ◌+◌, ◌<◌, ◌≤◌, ◌⊎◌, inl, inr, ⊎_elim, ◌==◌, List, [], ◌∷◌, ◌++◌, length, take, cond, nat_lt, lt-ltb, Bool, true, false, refl, ap, ◌∙◌, sym, subst, arith, Option, Some, None, IfSome, slice_get, append_assoc, append-nil, length-append}
use Rattle.std.proofs.lemmas.List.{take-append-le}
use mathlib.Core.Option.{some}
use lib.ListN.{get_elem?}
use Rattle.dn_counts.specs.Counts.{times}
use Rattle.dn_turns.specs.Logs.{Follows}
use Rattle.dn_board.specs.declared.post.Post.{Post}
use Rattle.dn_board.specs.Reads.{last_place, AreReads}

module _ {A : Type 0} where
  if_some : (o : Option A) (P : A → Type 0) → ((a : A) → o ≡ Some a → P a) → IfSome o P
  if_some None P h = tt
  if_some (Some a) P h = h a refl

  of_some : (o : Option A) (P : A → Type 0) (a : A) → o ≡ Some a → IfSome o P → P a
  of_some o P a e h = subst (λ (x : Option A). IfSome x P) e h

  none_some : {a : A} → None ≡ Some a → ⊥
  none_some e = cc

  one_some : {a b : A} → Some a ≡ Some b → a ≡ b
  one_some e = cc

  get_low : (xs : List A) (j : ℕ) (a : A) → slice_get xs j ≡ Some a → j < length xs
  get_low [] j a e = absurd (none_some e)
  get_low (x ∷ xs) zero a e = omega arith
  get_low (x ∷ xs) (suc j) a e = omega (arith, get_low xs j a e)

  get_take : (xs : List A) (n j : ℕ) → j < n → slice_get (take n xs) j ≡ slice_get xs j
  get_take [] zero j h = refl
  get_take [] (suc n) j h = refl
  get_take (x ∷ xs) zero j h = absurd (omega arith)
  get_take (x ∷ xs) (suc n) zero h = refl
  get_take (x ∷ xs) (suc n) (suc j) h = get_take xs n j (omega arith)

  length_take : (xs : List A) (n : ℕ) → length (take n xs) ≤ n
  length_take [] zero = omega arith
  length_take [] (suc n) = omega arith
  length_take (x ∷ xs) zero = omega arith
  length_take (x ∷ xs) (suc n) = omega (arith, length_take xs n)

  get_snoc : (xs : List A) (x : A) (j : ℕ) (a : A) → slice_get (xs ++ x ∷ []) j ≡ Some a → ((j < length xs) × (slice_get xs j ≡ Some a)) ⊎ ((j ≡ length xs) × (x ≡ a))
  get_snoc [] x zero a e = inr (refl, one_some e)
  get_snoc [] x (suc j) a e = absurd (none_some e)
  get_snoc (y ∷ xs) x zero a e = inl (omega arith, e)
  get_snoc (y ∷ xs) x (suc j) a e = ⊎_elim (λ t. inl (omega (arith, t.0), t.1)) (λ t. inr (omega (arith, t.0), t.1)) (get_snoc xs x j a e)

  take_all : (xs ys : List A) → take (length xs) (xs ++ ys) ≡ xs
  take_all [] [] = refl
  take_all [] (y ∷ ys) = refl
  take_all (x ∷ xs) ys = ap (λ l. x ∷ l) (take_all xs ys)

  take_snoc : (xs : List A) (j : ℕ) (a : A) → slice_get xs j ≡ Some a → take (j + 1) xs ≡ take j xs ++ a ∷ []
  take_snoc [] j a e = absurd (none_some e)
  take_snoc (x ∷ xs) zero a e = by xs (one_some e)
    where
      by : (ys : List A) → x ≡ a → take 1 (x ∷ ys) ≡ a ∷ []
      by [] q = ap (λ y. y ∷ []) q
      by (y ∷ ys) q = ap (λ z. z ∷ []) q
  take_snoc (x ∷ xs) (suc j) a e = let up : suc j + 1 ≡ suc (j + 1) = omega arith in ap (λ (k : ℕ). take k (x ∷ xs)) up ∙ ap (λ l. x ∷ l) (take_snoc xs j a e)

later_is : (k : ℕ) (here : Bool) → 0 < k → cond (nat_lt 0 k) (k + 1) (cond here 1 0) ≡ k + 1
later_is k here h = ap (λ (b : Bool). cond b (k + 1) (cond here 1 0)) (lt-ltb 0 k h)

-- it is a place of the list, or 0
pub last_low : (n : ℕ) (posts : List (ℕ × Post)) → last_place n posts ≤ length posts
last_low n [] = omega arith
last_low n (p ∷ posts) = by (last_place n posts) (p.0 == n) (last_low n posts)
  where
    by : (later : ℕ) (here : Bool) → later ≤ length posts → cond (nat_lt 0 later) (later + 1) (cond here 1 0) ≤ suc (length posts)
    by zero true h = omega arith
    by zero false h = omega arith
    by (suc k) here h = omega (arith, later_is (suc k) here (omega arith), h)

-- a post under the number stands no later
pub last_high : (n : ℕ) (posts : List (ℕ × Post)) (i : ℕ) (p : ℕ × Post) → slice_get posts i ≡ Some p → p.0 ≡ n → i + 1 ≤ last_place n posts
last_high n [] i p e q = absurd (none_some e)
last_high n (x ∷ posts) zero p e q =
    let here : (x.0 == n) ≡ true = ap (λ (y : ℕ × Post). y.0 == n) (one_some e) ∙ ap (λ (k : ℕ). k == n) q ∙ Rattle.std.proofs.Common.eq-eqb n n refl in
    by (last_place n posts) (x.0 == n) here
  where
    by : (later : ℕ) (here : Bool) → here ≡ true → 1 ≤ cond (nat_lt 0 later) (later + 1) (cond here 1 0)
    by zero true h = omega arith
    by zero false h = absurd (off h)
      where
        off : false ≡ true → ⊥
        off e = cc
    by (suc k) here h = omega (arith, later_is (suc k) here (omega arith))
last_high n (x ∷ posts) (suc i) p e q =
    let more = last_high n posts i p e q in
    omega (arith, more, later_is (last_place n posts) (x.0 == n) (omega (arith, more)))

pub last_snoc : (n : ℕ) (posts : List (ℕ × Post)) (p : ℕ × Post) → last_place n (posts ++ p ∷ []) ≡ cond (p.0 == n) (length posts + 1) (last_place n posts)
last_snoc n [] p = refl
last_snoc n (x ∷ xs) p = ap (λ (k : ℕ). cond (nat_lt 0 k) (k + 1) (cond (x.0 == n) 1 0)) (last_snoc n xs p) ∙ by (p.0 == n)
  where
    by : (b : Bool) → cond (nat_lt 0 (cond b (length xs + 1) (last_place n xs))) (cond b (length xs + 1) (last_place n xs) + 1) (cond (x.0 == n) 1 0) ≡ cond b (suc (length xs) + 1) (last_place n (x ∷ xs))
    by true = later_is (length xs + 1) (x.0 == n) (omega arith) ∙ omega arith
    by false = refl

-- posts under other numbers don't change it
pub stays : (n : ℕ) (seen rest : List (ℕ × Post)) → ((j : ℕ) (p : ℕ × Post) → get_elem? rest j ≡ some p → times p.0 (n ∷ []) ≡ 0) → last_place n (seen ++ rest) ≡ last_place n seen
stays n seen [] h = ap (last_place n) (append-nil seen)
stays n seen (p ∷ rest) h =
    let here : times p.0 (n ∷ []) ≡ 0 = h 0 p refl in
    let same : cond (p.0 == n) (length seen + 1) (last_place n seen) ≡ last_place n seen = grind (arith, here) in
    ap (last_place n) (sym (append_assoc seen (p ∷ []) rest)) ∙ stays n (seen ++ p ∷ []) rest (λ j q e. h (suc j) q e) ∙ last_snoc n seen p ∙ same

pub stays_with : (n : ℕ) (seen posts : List (ℕ × Post)) → Follows (n ∷ []) seen posts → last_place n posts ≡ last_place n seen
stays_with n seen posts f = ap (last_place n) f.1 ∙ stays n seen f.0 f.2

pub given : (posts : List (ℕ × Post)) (next : ℕ × Post) → last_place next.0 (posts ++ next ∷ []) ≡ length posts + 1
given posts next = last_snoc next.0 posts next ∙ ap (λ (b : Bool). cond b (length posts + 1) (last_place next.0 posts)) (Rattle.std.proofs.Common.eq-eqb next.0 next.0 refl)

pub before : (posts : List (ℕ × Post)) (j : ℕ) → AreReads posts → IfSome (slice_get posts j) (λ p. p.1.read ≤ j)
before posts j h = if_some (slice_get posts j) (λ p. p.1.read ≤ j) (λ p e.
    let is : p.1.read ≡ last_place p.0 (take j posts) = of_some (slice_get posts j) (λ q. q.1.read ≡ last_place q.0 (take j posts)) p e (h j) in
    omega (arith, is, last_low p.0 (take j posts), length_take posts j))

pub rise : (posts : List (ℕ × Post)) (i j : ℕ) → AreReads posts → i < j → IfSome (slice_get posts i) (λ p. IfSome (slice_get posts j) (λ q. p.0 ≡ q.0 → p.1.read ≤ q.1.read))
rise posts i j h lt = if_some (slice_get posts i) (λ p. IfSome (slice_get posts j) (λ q. p.0 ≡ q.0 → p.1.read ≤ q.1.read)) (λ p e.
    if_some (slice_get posts j) (λ q. p.0 ≡ q.0 → p.1.read ≤ q.1.read) (λ q d same.
    let low : p.1.read ≤ i = of_some (slice_get posts i) (λ y. y.1.read ≤ i) p e (before posts i h) in
    let is : q.1.read ≡ last_place q.0 (take j posts) = of_some (slice_get posts j) (λ y. y.1.read ≡ last_place y.0 (take j posts)) q d (h j) in
    omega (arith, low, is, last_high q.0 (take j posts) i p (get_take posts j i lt ∙ e) same)))

pub grow : (posts : List (ℕ × Post)) (next : ℕ × Post) → AreReads posts → next.1.read ≡ last_place next.0 posts → AreReads (posts ++ next ∷ [])
grow posts next h fit j = if_some (slice_get (posts ++ next ∷ []) j) (λ p. p.1.read ≡ last_place p.0 (take j (posts ++ next ∷ []))) (λ p e. ⊎_elim
    (λ t. of_some (slice_get posts j) (λ q. q.1.read ≡ last_place q.0 (take j posts)) p t.1 (h j) ∙ ap (last_place p.0) (sym (take-append-le j posts (next ∷ []) (omega (arith, t.0)))))
    (λ t. subst (λ (q : ℕ × Post). q.1.read ≡ last_place q.0 (take j (posts ++ next ∷ []))) t.1 (fit ∙ ap (last_place next.0) (sym (ap (λ (k : ℕ). take k (posts ++ next ∷ [])) t.0 ∙ take_all posts (next ∷ [])))))
    (get_snoc posts next j p e))

-- the last place in one post more
pub last_more : (n : ℕ) (posts : List (ℕ × Post)) (j : ℕ) (p : ℕ × Post) → slice_get posts j ≡ Some p → last_place n (take (j + 1) posts) ≡ cond (p.0 == n) (j + 1) (last_place n (take j posts))
last_more n posts j p e = ap (last_place n) (take_snoc posts j p e) ∙ last_snoc n (take j posts) p ∙ ap (λ (k : ℕ). cond (p.0 == n) (k + 1) (last_place n (take j posts))) (long posts j (get_low posts j p e))
  where
    long : (xs : List (ℕ × Post)) (k : ℕ) → k < length xs → length (take k xs) ≡ k
    long [] k h = absurd (omega arith)
    long (x ∷ xs) zero h = refl
    long (x ∷ xs) (suc k) h = omega (arith, long xs k (omega arith))
