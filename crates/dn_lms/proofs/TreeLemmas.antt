-- A tree filled level by level, and a path read from it.
use Rattle.std.proofs.Common.{◌≡◌, ◌≢◌, ℕ, zero, suc, ◌+◌, ◌-◌, ◌*◌, ◌/◌, ◌%◌, ◌^◌, ◌<◌, ◌≤◌, List, [], length, get_or, refl, ap, ◌∙◌, ⊎_elim, arith, lit<, lit≤}
use Rattle.std.proofs.Math.Nat.{pow-suc, div-one}
use Rattle.std.proofs.Math.Pow.{pow_mono}
use Rattle.std.proofs.Math.ListN.{set}
use Rattle.std.proofs.lemmas.List.{length-set, get_or-set_same, get_or-set_other}
use Rattle.std.proofs.lemmas.Nat.{pow_pos}
use Rattle.std.proofs.lemmas.Bool.{cases_lt}
use Rattle.dn_ots.specs.Ots.{ots_public}
use Rattle.dn_lms.specs.Key.{Key, height, leaves_of, leaf_count}
use Rattle.dn_lms.specs.Tree.{node, root, inner_hash, leaf_hash, path_node, sibling}
use Rattle.dn_lms.specs.Filled.{StandsAt, HasAbove, HasLeaves, HasTree}
use Rattle.dn_lms_definitions.proofs.Laws.{leaf_node, sibling_even, sibling_odd, half}

-- a value written at place r + k, with those written before it
pub written_more : (tree : List (List ℕ)) (f : ℕ → List ℕ) (x : List ℕ) (r k : ℕ) → r + k < length tree → x ≡ f k
    → ((i : ℕ) → i < k → get_or tree (r + i) [] ≡ f i) → (i : ℕ) → i < k + 1 → get_or (set tree (r + k) x) (r + i) [] ≡ f i
written_more tree f x r k lt e before i below =
    ⊎_elim
    (λ (less : i < k).
    let other : r + i ≢ r + k = omega arith in
    get_or-set_other tree (r + k) (r + i) x [] other ∙ before i less)
    (λ (last : k ≤ i).
    let same : i ≡ k = omega arith in
    rw same (get_or-set_same tree (r + k) x [] lt ∙ e))
    (cases_lt i k)

-- four leaves more
pub leaves_more : (key : Key) (tree now keys : List (List ℕ)) (n : ℕ)
    → ((k : ℕ) → k < 4 → get_or keys k [] ≡ ots_public key.ots key.id (4 * n + k) key.seed)
    → ((k : ℕ) → k < 4 → get_or now (leaf_count key + 4 * n + k) [] ≡ leaf_hash key.id (leaf_count key + 4 * n + k) (get_or keys k []))
    → ((i : ℕ) → i < leaf_count key + 4 * n → get_or now i [] ≡ get_or tree i [])
    → ((i : ℕ) → i < 4 * n → get_or tree (leaf_count key + i) [] ≡ node key 0 (leaf_count key + i))
    → (i : ℕ) → i < 4 * (n + 1) → get_or now (leaf_count key + i) [] ≡ node key 0 (leaf_count key + i)
leaves_more key tree now keys n made written kept before i below =
    ⊎_elim
    (λ (less : i < 4 * n). kept (leaf_count key + i) (omega arith) ∙ before i less)
    (λ (here : 4 * n ≤ i).
    let k = i - 4 * n in
    let lane : k < 4 = omega arith in
    let leaf : 4 * n + k ≡ i = omega arith in
    let place : leaf_count key + 4 * n + k ≡ leaf_count key + i = omega arith in
    let key_of_lane = rw leaf at (made k lane) in
    (rw place at (written k lane)) ∙ ap (leaf_hash key.id (leaf_count key + i)) key_of_lane ∙ leaf_node key i)
    (cases_lt i (4 * n))

-- what stands among the leaves is a leaf
leaf_level : (h t r : ℕ) → StandsAt h t r → 2 ^ h ≤ r → t ≡ 0
leaf_level h zero r s low = refl
leaf_level h (suc t) r s low =
    let up : suc (h - suc t) ≡ h - t = omega (arith, s.within) in
    let twice : 2 ^ (h - t) ≡ 2 ^ (h - suc t) * 2 = rw (← up) (pow-suc 2 (h - suc t)) in
    let all : 2 ^ (h - t) ≤ 2 ^ h = pow_mono (omega arith) in
    absurd (omega (arith, s.last))

leaf_wide : (h t r : ℕ) → StandsAt h t r → t ≡ 0 → r < 2 * 2 ^ h
leaf_wide h t r s e =
    let at : h - t ≡ h = omega arith in
    rw at at s.last

-- a list with the leaves has what is above the inner nodes
pub above_leaves : (key : Key) (tree : List (List ℕ)) (n : ℕ) → n + 1 ≡ leaf_count key → HasLeaves key tree → HasAbove key tree n
unfolding leaves_of
above_leaves key tree n en has = record {
  size = has.size;
  nodes = λ t r stands lt.
      let level : t ≡ 0 = leaf_level (height key.lms) t r stands (omega arith) in
      let wide : r < 2 * leaf_count key = leaf_wide (height key.lms) t r stands level in
      let at : leaf_count key + (r - leaf_count key) ≡ r = omega arith in
      rw (level, ← at) (has.leaves (r - leaf_count key) (omega arith));
}

-- the nodes below stand a level lower
below_left : (h t r : ℕ) → StandsAt h (suc t) r → StandsAt h t (2 * r)
below_left h t r s =
    let up : suc (h - suc t) ≡ h - t = omega (arith, s.within) in
    let twice : 2 ^ (h - t) ≡ 2 ^ (h - suc t) * 2 = rw (← up) (pow-suc 2 (h - suc t)) in
    record { within = omega (arith, s.within); first = omega (arith, s.first); last = omega (arith, s.last) }

below_right : (h t r : ℕ) → StandsAt h (suc t) r → StandsAt h t (2 * r + 1)
below_right h t r s =
    let up : suc (h - suc t) ≡ h - t = omega (arith, s.within) in
    let twice : 2 ^ (h - t) ≡ 2 ^ (h - suc t) * 2 = rw (← up) (pow-suc 2 (h - suc t)) in
    record { within = omega (arith, s.within); first = omega (arith, s.first); last = omega (arith, s.last) }

-- an inner node by those below it
inner_node : (key : Key) (tree : List (List ℕ)) (x : List ℕ) (t r : ℕ) → HasAbove key tree r → 0 < r → r < leaf_count key
    → x ≡ inner_hash key.id r (get_or tree (2 * r) []) (get_or tree (2 * r + 1) []) → StandsAt (height key.lms) t r → x ≡ node key t r
unfolding node leaves_of
inner_node key tree x zero r has some lt ex s =
    let all : height key.lms - 0 ≡ height key.lms = omega arith in
    let first = rw all at s.first in
    absurd (omega (arith, first))
inner_node key tree x (suc t) r has some lt ex s =
    let left = has.nodes t (2 * r) (below_left (height key.lms) t r s) (omega arith) in
    let right = has.nodes t (2 * r + 1) (below_right (height key.lms) t r s) (omega arith) in
    ex ∙ rw (left, right) refl

get_at : (key : Key) (tree : List (List ℕ)) (x : List ℕ) (t k r : ℕ) → k ≡ r → r < length tree → x ≡ node key t r → get_or (set tree r x) k [] ≡ node key t k
get_at key tree x t k r same lt e = rw same (get_or-set_same tree r x [] lt ∙ e)

-- one inner node more
pub above_more : (key : Key) (tree : List (List ℕ)) (x : List ℕ) (n r : ℕ) → n + 1 ≡ r → r < leaf_count key → HasAbove key tree r
    → x ≡ inner_hash key.id r (get_or tree (2 * r) []) (get_or tree (2 * r + 1) []) → HasAbove key (set tree r x) n
above_more key tree x n r en lt has ex = record {
  size = length-set tree r x ∙ has.size;
  nodes = λ t k stands above.
      ⊎_elim
      (λ (higher : r < k).
      let other : k ≢ r = omega arith in
      get_or-set_other tree r k x [] other ∙ has.nodes t k stands higher)
      (λ (here : k ≤ r).
      let same : k ≡ r = omega arith in
      get_at key tree x t k r same (omega (arith, has.size)) (inner_node key tree x t r has (omega arith) lt ex (rw same at stands)))
      (cases_lt r k);
}

-- leaf q and the nodes on its way stand in the tree
pub way_stands : (h q i : ℕ) → q < 2 ^ h → i ≤ h → StandsAt h i ((2 ^ h + q) / 2 ^ i)
way_stands h q zero lt le =
    let all : h - 0 ≡ h = omega arith in
    rw (div-one (2 ^ h + q)) (record { within = le; first = rw all (omega arith); last = rw all (omega arith) })
way_stands h q (suc i) lt le =
    let s = way_stands h q i lt (omega arith) in
    let up : suc (h - suc i) ≡ h - i = omega arith in
    let twice : 2 ^ (h - i) ≡ 2 ^ (h - suc i) * 2 = rw (← up) (pow-suc 2 (h - suc i)) in
    rw (← half (2 ^ h + q) i) (record { within = le; first = omega (arith, s.first); last = omega (arith, s.last) })

-- and their siblings, below the root
pub sibling_stands : (h i r : ℕ) → i < h → StandsAt h i r → StandsAt h i (sibling r)
sibling_stands h i r lt s =
    let up : suc (h - suc i) ≡ h - i = omega arith in
    let twice : 2 ^ (h - i) ≡ 2 ^ (h - suc i) * 2 = rw (← up) (pow-suc 2 (h - suc i)) in
    ⊎_elim
    (λ (even : r % 2 < 1).
    rw (sibling_even r (omega arith)) (record { within = s.within; first = omega (arith, s.first); last = omega (arith, s.last) }))
    (λ (odd : 1 ≤ r % 2).
    rw (sibling_odd r (omega arith)) (record { within = s.within; first = omega (arith, s.first); last = omega (arith, s.last) }))
    (cases_lt (r % 2) 1)

-- the root stands at the top
pub root_in : (key : Key) (tree : List (List ℕ)) → HasTree key tree → get_or tree 1 [] ≡ root key
unfolding root
root_in key tree has =
    let h = height key.lms in
    let none : h - h ≡ 0 = omega arith in
    has.nodes h 1 (record { within = omega arith; first = rw none (lit≤ tt); last = rw none (lit< tt) }) (lit< tt)

-- what stands in the tree is within its list
pub stands_within : (h i r : ℕ) → StandsAt h i r → r < 2 * 2 ^ h
stands_within h i r s = let all : 2 ^ (h - i) ≤ 2 ^ h = pow_mono (omega arith) in omega (arith, s.last)

-- a node of a leaf's path, from the list
pub path_node_read : (key : Key) (tree : List (List ℕ)) (q i : ℕ) → HasTree key tree → q < leaf_count key → i < height key.lms
    → get_or tree (sibling ((leaf_count key + q) / 2 ^ i)) [] ≡ path_node key q i
unfolding path_node leaves_of
path_node_read key tree q i has lt below =
    let s = sibling_stands (height key.lms) i ((2 ^ height key.lms + q) / 2 ^ i) below (way_stands (height key.lms) q i lt (omega arith)) in
    let some = pow_pos (height key.lms - i) in
    has.nodes i (sibling ((2 ^ height key.lms + q) / 2 ^ i)) s (omega (arith, s.first))

-- the numbers on a leaf's way, and their siblings', are small
pub way_small : (lms q i : ℕ) → q < leaves_of lms → i < height lms → (leaves_of lms + q) / 2 ^ i < 2 * leaves_of lms
unfolding leaves_of
way_small lms q i lt below = stands_within (height lms) i _ (way_stands (height lms) q i lt (omega arith))

pub sibling_small : (lms q i : ℕ) → q < leaves_of lms → i < height lms → sibling ((leaves_of lms + q) / 2 ^ i) < 2 * leaves_of lms
unfolding leaves_of
sibling_small lms q i lt below =
    stands_within (height lms) i _ (sibling_stands (height lms) i _ below (way_stands (height lms) q i lt (omega arith)))
