-- The order in which clients get slots, and that each stands there once, fix the list of the owners.
use Rattle.std.proofs.Common.{ℕ, ◌+◌, ◌<◌, ◌≡◌, List, [], ◌∷◌, get_or, refl, sym, ap, subst, ◌∙◌, arith, add-one, eq-eqb, ne_eqb, Bool, false, cond, nat_lt, ◌==◌}
use Rattle.std.specs.Prelude.{◌&&◌, ◌||◌, All}
use Rattle.std.specs.List.{sum_by}
use Rattle.std.specs.List.Sorted.{IsSortedBy}
use Rattle.std.proofs.lemmas.Bool.Decides.{nat_tests}
use Rattle.std.proofs.lemmas.List.Elements.{All-nil, All-cons, All-head, All-tail, All-weaker}
use Rattle.std.proofs.lemmas.List.Sums.{sum_by-cons}
use mathlib.Core.Logic.{dite}
use native.Mathlib.Decide.{ℕ_discrete}
use Rattle.dn_wire.specs.declared.ids.ClientId.{ClientId}
use Rattle.dn_roster.specs.declared.group.GroupSpec.{GroupSpec}
use Rattle.dn_roster.specs.Dealing.{owner_number}
use Rattle.dn_roster.specs.Owners.{IsOwners, client_id, comes_before}

-- ---- the order

abbrev before : ℕ → ℕ → ℕ → ℕ → Bool
before m i n j = nat_lt m n || (m == n && nat_lt i j)

never_before_itself : (m i : ℕ) → before m i m i ≡ false
never_before_itself m i = grind (arith, nat_tests)

chain : (a i b j c k : ℕ) → before b j a i ≡ false → before c k b j ≡ false → before c k a i ≡ false
chain a i b j c k p q = grind (arith, nat_tests)

alike : (a i b j : ℕ) → before a i b j ≡ false → before b j a i ≡ false → i ≡ j
alike a i b j p q = grind (arith, nat_tests)

-- c doesn't come before x
abbrev NotBefore : List ℕ → ClientId → ClientId → Type 0
NotBefore seed x c = comes_before seed c x ≡ false

sorted_rest : (seed : List ℕ) (x : ClientId) (xs : List ClientId) → IsSortedBy (comes_before seed) (x ∷ xs) → IsSortedBy (comes_before seed) xs
sorted_rest seed x xs sorted = λ k d low high.
    (λ i. comes_before seed (get_or (x ∷ xs) (sym (add-one (k + 1)) i) d) (get_or (x ∷ xs) (sym (add-one k) i) d))
    ∙ sorted (k + 1) d (omega arith) (omega (arith, high))

-- none comes before the first
first : (seed : List ℕ) (x : ClientId) (xs : List ClientId) → IsSortedBy (comes_before seed) (x ∷ xs) → All (NotBefore seed x) xs
first seed x [] sorted = All-nil (NotBefore seed x)
first seed x (y ∷ ys) sorted =
    let n : ClientId → ℕ = λ c. owner_number seed c.0 in
    let here : NotBefore seed x y = sorted 0 x (omega arith) (omega arith) in
    All-cons (NotBefore seed x) y ys here
    (All-weaker (NotBefore seed y) (NotBefore seed x) (λ z later. chain (n x) x.0 (n y) y.0 (n z) z.0 here later) ys (first seed y ys (sorted_rest seed x (y ∷ ys) sorted)))

-- ---- how often each stands in a list

abbrev times : ℕ → List ClientId → ℕ
times i cs = sum_by (λ c. cond (c.0 == i) 1 0) cs

step : (x : ClientId) (xs : List ClientId) (i : ℕ) → times i (x ∷ xs) ≡ cond (x.0 == i) 1 0 + times i xs
step x xs i = sum_by-cons (λ (c : ClientId). cond (c.0 == i) 1 0) x xs

hit : (x : ClientId) (xs : List ClientId) → 0 < times x.0 (x ∷ xs)
hit x xs = omega (arith, step x xs x.0, ap (λ b. cond {A = ℕ} b 1 0) (eq-eqb x.0 x.0 refl))

-- who stands in a list has what all in it have
found : (P : ClientId → Type 0) (xs : List ClientId) (i : ℕ) → All P xs → 0 < times i xs → P (client_id i)
found P [] i all some = absurd (omega arith)
found P (x ∷ xs) i all some = dite (ℕ_discrete x.0 i)
    (λ e. subst (λ n. P (client_id n)) e (All-head P x xs all))
    (λ ne. found P xs i (All-tail P x xs all) (omega (arith, some, step x xs i, ap (λ b. cond {A = ℕ} b 1 0) (ne_eqb x.0 i ne))))

-- ---- one list

first_alike : (seed : List ℕ) (x y : ClientId) (xs ys : List ClientId) → IsSortedBy (comes_before seed) (x ∷ xs) → IsSortedBy (comes_before seed) (y ∷ ys)
    → ((i : ℕ) → times i (x ∷ xs) ≡ times i (y ∷ ys)) → x.0 ≡ y.0
first_alike seed x y xs ys a b same =
    let n : ClientId → ℕ = λ c. owner_number seed c.0 in
    let all_x : All (NotBefore seed x) (x ∷ xs) = All-cons (NotBefore seed x) x xs (never_before_itself (n x) x.0) (first seed x xs a) in
    let all_y : All (NotBefore seed y) (y ∷ ys) = All-cons (NotBefore seed y) y ys (never_before_itself (n y) y.0) (first seed y ys b) in
    let x_later : NotBefore seed y x = found (NotBefore seed y) (y ∷ ys) x.0 all_y (subst (λ t. 0 < t) (same x.0) (hit x xs)) in
    let y_later : NotBefore seed x y = found (NotBefore seed x) (x ∷ xs) y.0 all_x (subst (λ t. 0 < t) (sym (same y.0)) (hit y ys)) in
    alike (n x) x.0 (n y) y.0 x_later y_later

same_sorted : (seed : List ℕ) (xs ys : List ClientId) → IsSortedBy (comes_before seed) xs → IsSortedBy (comes_before seed) ys → ((i : ℕ) → times i xs ≡ times i ys) → xs ≡ ys
same_sorted seed [] [] a b same = refl
same_sorted seed [] (y ∷ ys) a b same = absurd (omega (arith, same y.0, hit y ys))
same_sorted seed (x ∷ xs) [] a b same = absurd (omega (arith, same x.0, hit x xs))
same_sorted seed (x ∷ xs) (y ∷ ys) a b same =
    let e : x.0 ≡ y.0 = first_alike seed x y xs ys a b same in
    let rest : (i : ℕ) → times i xs ≡ times i ys = λ i. omega (arith, same i, step x xs i, step y ys i, ap (λ n. cond {A = ℕ} (n == i) 1 0) e) in
    let tails = same_sorted seed xs ys (sorted_rest seed x xs a) (sorted_rest seed y ys b) rest in
    λ k. client_id (e k) ∷ tails k

pub one_list : (group : GroupSpec) (xs ys : List ClientId) → IsOwners group xs → IsOwners group ys → xs ≡ ys
one_list group xs ys a b = same_sorted group.seed xs ys a.ordered b.ordered (λ i. a.once i ∙ sym (b.once i))
