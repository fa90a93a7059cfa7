-- The clients in the order in which they get slots.
use Rattle.std.proofs.Common.{zero, suc, ◌≢◌, ◌≤◌, eq-eqb, ne_eqb, le-ltb, lt-ltb, ◌≡◌, ℕ, ◌+◌, ◌<◌, List, [], ◌∷◌, length, map, get_or, refl, sym, ap, ◌∙◌, subst, arith, Bool, true, false, cond, nat_lt, ◌==◌}
use Rattle.std.specs.Prelude.{◌&&◌, ◌||◌, All}
use Rattle.std.specs.Ordering.{nat_cmp, is_lt, ordering_then}
use Rattle.std.specs.declared.cmp.Ordering.TheVariants.{Less, Equal, Greater}
use Rattle.std.specs.List.{range_with_len, sum_by}
use Rattle.std.specs.List.Sorted.{IsPermutation, IsSortedBy}
use Rattle.std.proofs.lemmas.List.{get_or-map, length-map}
use Rattle.std.proofs.lemmas.List.Elements.{All-map}
use Rattle.std.proofs.lemmas.List.Sorted.{IsPermutation-map, sum_by-IsPermutation}
use Rattle.std.proofs.lemmas.List.Sums.{sum_by-cons}
use mathlib.Core.Logic.{dite}
use native.Mathlib.Decide.{dec_le, ℕ_discrete}
use Rattle.std.proofs.lemmas.Map.Views.{All-map-IsPermutation}
use Rattle.dn_wire.specs.declared.ids.ClientId.{ClientId}
use Rattle.dn_roster.specs.declared.group.GroupSpec.{GroupSpec}
use Rattle.dn_roster.specs.Dealing.{owner_number}
use Rattle.dn_roster.specs.Owners.{IsOwners, client_id, numbered, comes_before}

abbrev Pair : Type 0
Pair = ℕ × ClientId

abbrev is_less : Pair → Pair → Bool
is_less x y = is_lt (ordering_then (nat_cmp x.0 y.0) (nat_cmp x.1.0 y.1.0))

-- the order of pairs is by the first, and then by the second
by_both : (a b c d : Bool) → is_lt (ordering_then (cond a Less (cond b Equal Greater)) (cond c Less (cond d Equal Greater))) ≡ (a || (b && c))
by_both true b c d = refl
by_both false true true d = refl
by_both false true false true = refl
by_both false true false false = refl
by_both false false c d = refl

map_second : (seed : List ℕ) (xs : List ℕ) → map (λ (p : Pair). p.1) (map (λ i. numbered seed (client_id i)) xs) ≡ map client_id xs
map_second seed [] = refl
map_second seed (x ∷ xs) = ap (λ l. client_id x ∷ l) (map_second seed xs)

same_map : (xs : List Pair) → map (λ p. p) xs ≡ xs
same_map [] = refl
same_map (x ∷ xs) = ap (λ l. x ∷ l) (same_map xs)

hit : (a i : ℕ) → a ≡ i → cond {A = ℕ} (a == i) 1 0 ≡ 1
hit a i e = ap (λ b. cond b 1 0) (eq-eqb a i e)

miss : (a i : ℕ) → a ≢ i → cond {A = ℕ} (a == i) 1 0 ≡ 0
miss a i ne = ap (λ b. cond b 1 0) (ne_eqb a i ne)

abbrev times : ℕ → List ClientId → ℕ
times i cs = sum_by (λ c. cond (c.0 == i) 1 0) cs

step : (a n i : ℕ) → times i (map client_id (range_with_len a (suc n))) ≡ cond (a == i) 1 0 + times i (map client_id (range_with_len (a + 1) n))
step a n i = sum_by-cons (λ (c : ClientId). cond (c.0 == i) 1 0) (client_id a) (map client_id (range_with_len (a + 1) n))

-- among the numbers from a on, as many as n, one below them stands nowhere, one behind them neither, and each other once
before : (a n i : ℕ) → i < a → times i (map client_id (range_with_len a n)) ≡ 0
before a zero i h = refl
before a (suc n) i h = omega (arith, step a n i, miss a i (λ e. omega arith), before (a + 1) n i (omega arith))

behind : (a n i : ℕ) → a + n ≤ i → times i (map client_id (range_with_len a n)) ≡ 0
behind a zero i h = refl
behind a (suc n) i h = omega (arith, step a n i, miss a i (λ e. omega arith), behind (a + 1) n i (omega arith))

within : (a n i : ℕ) → a ≤ i → i < a + n → times i (map client_id (range_with_len a n)) ≡ 1
within a zero i low high = absurd (omega arith)
within a (suc n) i low high = dite (ℕ_discrete a i)
    (λ e. omega (arith, step a n i, hit a i e, before (a + 1) n i (omega arith)))
    (λ ne. omega (arith, step a n i, miss a i ne, within (a + 1) n i (omega arith) (omega arith)))

each_once : (n i : ℕ) → times i (map client_id (range_with_len 0 n)) ≡ cond (nat_lt i n) 1 0
each_once n i = dite (dec_le n i)
    (λ le. behind 0 n i (omega arith) ∙ sym (ap (λ b. cond b 1 0) (le-ltb i n le)))
    (λ gt. within 0 n i (omega arith) (omega arith) ∙ sym (ap (λ b. cond b 1 0) (lt-ltb i n (omega arith))))

-- the sorted pairs without their numbers
pub owned : (group : GroupSpec) (pairs : List Pair) → IsPermutation (map (λ i. numbered group.seed (client_id i)) (range_with_len 0 group.clients)) pairs
    → IsSortedBy is_less pairs → IsOwners group (map (λ p. p.1) pairs)
owned group pairs moved sorted = record {
  once = λ i. sum_by-IsPermutation (λ (c : ClientId). cond (c.0 == i) 1 0) (map client_id (range_with_len 0 group.clients)) (map (λ p. p.1) pairs) same_clients ∙ each_once group.clients i;
  ordered = λ k d low high. at k d (omega (arith, high, long));
}
  where
    same_clients : IsPermutation (map client_id (range_with_len 0 group.clients)) (map (λ (p : Pair). p.1) pairs)
    same_clients = subst (λ xs. IsPermutation xs (map (λ p. p.1) pairs)) (map_second group.seed (range_with_len 0 group.clients)) (IsPermutation-map (λ p. p.1) _ pairs moved)

    long : length (map (λ (p : Pair). p.1) pairs) ≡ length pairs
    long = length-map pairs (λ p. p.1)

    all : All (λ (p : Pair). p.0 ≡ owner_number group.seed p.1.0) pairs
    all =
        let P : Pair → Type 0 = λ p. p.0 ≡ owner_number group.seed p.1.0 in
        let dealt = All-map P (λ i. numbered group.seed (client_id i)) (range_with_len 0 group.clients) (λ k d below. refl) in
        subst (All P) (same_map pairs) (All-map-IsPermutation (λ p. p) P _ pairs moved (subst (All P) (sym (same_map _)) dealt))

    at : (k : ℕ) (d : ClientId) → k + 1 < length pairs → comes_before group.seed (get_or (map (λ (p : Pair). p.1) pairs) (k + 1) d) (get_or (map (λ (p : Pair). p.1) pairs) k d) ≡ false
    at k d high =
        let seed = group.seed in
        let e = numbered seed d in
        let p = get_or pairs (k + 1) e in
        let q = get_or pairs k e in
        let later = get_or-map (λ (x : Pair). x.1) pairs (k + 1) e d high in
        let earlier = get_or-map (λ (x : Pair). x.1) pairs k e d (omega arith) in
        let a : owner_number seed p.1.0 ≡ p.0 = sym (all (k + 1) e high) in
        let b : owner_number seed q.1.0 ≡ q.0 = sym (all k e (omega arith)) in
        (λ i. comes_before seed (later i) (earlier i))
        ∙ (λ i. nat_lt (a i) (b i) || ((a i == b i) && nat_lt p.1.0 q.1.0))
        ∙ sym (by_both (nat_lt p.0 q.0) (p.0 == q.0) (nat_lt p.1.0 q.1.0) (p.1.0 == q.1.0))
        ∙ sorted k e (omega arith) high
