-- Sums over lists, and who takes which member of a list.
use Rattle.std.proofs.Common.{◌≡◌, ℕ, zero, suc, ◌+◌, ◌<◌, ◌≤◌, ◌≢◌, ◌%◌, List, [], ◌∷◌, ◌++◌, length, map, cond, ◌==◌, Bool, true, false, refl, sym, ap, subst, ◌∙◌, arith, ◌⊎◌, inl, inr, nat_lt, get_or, take, eqb, eq-eqb, append-nil, length-take}
use Rattle.std.proofs.lemmas.Bool.{false≢true, ne_eqb, eqb-true, lt-ltb, le-ltb, cases_order}
use Rattle.std.proofs.lemmas.List.{take_more}
use Rattle.std.specs.List.{sum_by}
use Rattle.std.specs.List.Sorted.{IsPermutation}
use Rattle.std.proofs.lemmas.List.Sums.{sum_by-cons}
use Rattle.std.proofs.lemmas.List.Sorted.{sum_by-IsPermutation}
use Rattle.dn_counts.specs.Counts.{total, equal, times}
use Rattle.dn_counts.proofs.Sums.{total-append, hit}
use Rattle.dn_wire.specs.declared.ids.ClientId.{ClientId}
use Rattle.dn_crew.specs.Race.{numbers_of, client_of}
use Rattle.dn_crew.specs.Shares.{share_from, upto}

module _ {A : Type 0} where
  -- a total is std's sum
  pub total_sum : (g : A → ℕ) (xs : List A) → total g xs ≡ sum_by g xs
  total_sum g [] = refl
  total_sum g (x ∷ xs) = ap (λ n. g x + n) (total_sum g xs) ∙ sym (sum_by-cons g x xs)

  pub total-permutation : (g : A → ℕ) (xs ys : List A) → IsPermutation xs ys → total g ys ≡ total g xs
  total-permutation g xs ys p = total_sum g ys ∙ sum_by-IsPermutation g xs ys p ∙ sym (total_sum g xs)

  pub total-map : {B : Type 0} (g : B → ℕ) (f : A → B) (xs : List A) → total g (map f xs) ≡ total (λ x. g (f x)) xs
  total-map g f [] = refl
  total-map g f (x ∷ xs) = ap (λ n. g (f x) + n) (total-map g f xs)

  pub length-mapped : {B : Type 0} (f : A → B) (xs : List A) → length (map f xs) ≡ length xs
  length-mapped f [] = refl
  length-mapped f (x ∷ xs) = ap suc (length-mapped f xs)

  pub total_one : (xs : List A) → total (λ x. 1) xs ≡ length xs
  total_one [] = refl
  total_one (x ∷ xs) = omega (arith, total_one xs)

  pub total-push : (g : A → ℕ) (xs : List A) (y : A) → total g (xs ++ y ∷ []) ≡ total g xs + g y
  total-push g xs y = omega (arith, total-append g xs (y ∷ []))

  -- functions that agree have one total
  pub total_same : (f g : A → ℕ) → ((x : A) → f x ≡ g x) → (xs : List A) → total f xs ≡ total g xs
  total_same f g e [] = refl
  total_same f g e (x ∷ xs) = omega (arith, e x, total_same f g e xs)

pub times_total : (n : ℕ) (xs : List ℕ) → times n xs ≡ total (λ x. equal x n) xs
times_total n xs = sym (total_sum (λ x. equal x n) xs)

share_one : (b : Bool) (n : ℕ) (xs ys zs : List ℕ) → xs ≡ ys ++ zs → cond b (n ∷ xs) xs ≡ cond b (n ∷ ys) ys ++ zs
share_one true n xs ys zs e = ap (λ l. n ∷ l) e
share_one false n xs ys zs e = e

share_last : (b : Bool) (n : ℕ) → cond b (n ∷ []) [] ≡ [] ++ cond b (n ∷ []) []
share_last true n = refl
share_last false n = refl

-- one member more
pub share-push : (k W w : ℕ) (list : List (ClientId × ℕ)) (m : ClientId × ℕ) → share_from k W w (list ++ m ∷ []) ≡ share_from k W w list ++ cond ((k + length list) % W == w) (m.1 ∷ []) []
share-push k W w [] m = rw (Rattle.std.proofs.Common.add-zero k) (share_last (k % W == w) m.1)
share-push k W w (x ∷ list) m =
    let e : (k + 1) + length list ≡ k + suc (length list) = omega arith in
    share_one (k % W == w) x.1 _ _ _ (share-push (k + 1) W w list m ∙ ap (λ n. share_from (k + 1) W w list ++ cond (n % W == w) (m.1 ∷ []) []) e)

share_at : (list : List (ClientId × ℕ)) (k W w : ℕ) (d : ClientId × ℕ) (p : Bool) → k < length list → (k % W == w) ≡ p
    → share_from 0 W w (take (k + 1) list) ≡ share_from 0 W w (take k list) ++ cond p ((get_or list k d).1 ∷ []) []
share_at list k W w d p lt e =
    let long : 0 + length (take k list) ≡ k = omega (arith, length-take k list) in
    ap (share_from 0 W w) (take_more list k d lt) ∙ share-push 0 W w (take k list) (get_or list k d)
    ∙ ap (λ n. share_from 0 W w (take k list) ++ cond (n % W == w) ((get_or list k d).1 ∷ []) []) long
    ∙ ap (λ q. share_from 0 W w (take k list) ++ cond q ((get_or list k d).1 ∷ []) []) e

-- the worker takes the member at k, or doesn't
pub share_more_yes : (h : ℕ → ℕ) (list : List (ClientId × ℕ)) (k W w : ℕ) (d : ClientId × ℕ) → k < length list → k % W ≡ w
    → total h (share_from 0 W w (take (k + 1) list)) ≡ total h (share_from 0 W w (take k list)) + h (get_or list k d).1
share_more_yes h list k W w d lt e = ap (total h) (share_at list k W w d true lt (eq-eqb _ _ e)) ∙ total-push h _ _

pub share_more_no : (h : ℕ → ℕ) (list : List (ClientId × ℕ)) (k W w : ℕ) (d : ClientId × ℕ) → k < length list → (k % W ≡ w → ⊥)
    → total h (share_from 0 W w (take (k + 1) list)) ≡ total h (share_from 0 W w (take k list))
share_more_no h list k W w d lt e = ap (total h) (share_at list k W w d false lt (ne_eqb _ _ e) ∙ append-nil _)

-- a member's number is among the numbers
pub has_number : (list : List (ClientId × ℕ)) (k : ℕ) (d : ClientId × ℕ) → k < length list → 1 ≤ total (λ x. equal x (get_or list k d).1) (numbers_of list)
has_number [] k d lt = absurd (omega arith)
has_number (m ∷ list) zero d lt = omega (arith, hit m.1 m.1 refl)
has_number (m ∷ list) (suc k) d lt = let h = has_number list k d (omega arith) in omega arith

client_here : (p : Bool) (n : ℕ) (c r d : ℕ) → (p ≡ true → c ≡ d) → (p ≡ false → r ≡ d) → cond p c r ≡ d
client_here true n c r d f g = f refl
client_here false n c r d f g = g refl

-- the client of a member's number is the member's
pub client_at : (list : List (ClientId × ℕ)) (k : ℕ) (d : ClientId × ℕ) → ((n : ℕ) → total (λ x. equal x n) (numbers_of list) ≤ 1) → k < length list
    → client_of list (get_or list k d).1 ≡ (get_or list k d).0.0
client_at [] k d one lt = absurd (omega arith)
client_at (m ∷ list) zero d one lt = client_here (m.1 == m.1) 0 _ _ _ (λ _. refl) (λ e. absurd (false≢true (sym e ∙ eq-eqb m.1 m.1 refl)))
client_at (m ∷ list) (suc k) d one lt =
    let x = get_or list k d in
    client_here (m.1 == x.1) 0 _ _ _
    (λ e. absurd (let h = has_number list k d (omega arith) in let o = one x.1 in let y = hit m.1 x.1 (eqb-true _ _ e) in omega arith))
    (λ e. client_at list k d (λ n. let o = one n in omega arith) (omega arith))

abbrev pub if_below : ℕ → ℕ → ℕ → ℕ
if_below x n v = cond (nat_lt x n) v 0

pub if_below_yes : (x n v : ℕ) → x < n → if_below x n v ≡ v
if_below_yes x n v lt = ap (λ b. cond b v 0) (lt-ltb x n lt)

pub if_below_no : (x n v : ℕ) → n ≤ x → if_below x n v ≡ 0
if_below_no x n v le = ap (λ b. cond b v 0) (le-ltb x n le)

share_total : (h : ℕ → ℕ) (b : Bool) (n : ℕ) (xs : List ℕ) → total h (cond b (n ∷ xs) xs) ≡ cond b (h n) 0 + total h xs
share_total h true n xs = refl
share_total h false n xs = omega arith

pub if_below_more : (x n v : ℕ) → if_below x (suc n) v ≡ if_below x n v + cond (x == n) v 0
if_below_more x n v = elim (cases_order x n) [
  | inl e ↦ omega (arith, if_below_yes x (suc n) v (omega arith), if_below_no x n v (omega arith), ap (λ b. cond {A = ℕ} b v 0) (eq-eqb x n e))
  | inr o ↦ elim o [
    | inl lt ↦ omega (arith, if_below_yes x (suc n) v (omega arith), if_below_yes x n v lt, ap (λ b. cond {A = ℕ} b v 0) (ne_eqb x n (λ e. absurd (omega arith))))
    | inr gt ↦ omega (arith, if_below_no x (suc n) v (omega arith), if_below_no x n v (omega arith), ap (λ b. cond {A = ℕ} b v 0) (ne_eqb x n (λ e. absurd (omega arith))))
  ]
]

-- one member more in front is of one worker
upto_cons : (h : ℕ → ℕ) (k W : ℕ) (m : ClientId × ℕ) (list : List (ClientId × ℕ)) (n : ℕ) → upto h k W (m ∷ list) n ≡ if_below (k % W) n (h m.1) + upto h (k + 1) W list n
upto_cons h k W m list zero = omega (arith, if_below_no (k % W) 0 (h m.1) (omega arith))
upto_cons h k W m list (suc n) =
    omega (arith, upto_cons h k W m list n, share_total h (k % W == n) m.1 (share_from (k + 1) W n list), if_below_more (k % W) n (h m.1))

upto_none : (h : ℕ → ℕ) (k W n : ℕ) → upto h k W [] n ≡ 0
upto_none h k W zero = refl
upto_none h k W (suc n) = omega (arith, upto_none h k W n)

-- all workers together take each member once
pub upto_all : (h : ℕ → ℕ) (k W : ℕ) (list : List (ClientId × ℕ)) → 0 < W → upto h k W list W ≡ total h (numbers_of list)
upto_all h k W [] some = upto_none h k W W
upto_all h k W (m ∷ list) some =
    let small : k % W < W = omega arith in
    omega (arith, upto_cons h k W m list W, if_below_yes (k % W) W (h m.1) small, upto_all h (k + 1) W list some)
