-- A tree's nodes as a list, in which place r has node r.
use Rattle.std.specs.Prelude.{◌≡◌, ℕ, ◌+◌, ◌-◌, ◌*◌, ◌^◌, ◌<◌, ◌≤◌, List, [], length, slice_index_or}
use Rattle.dn_lms.specs.Key.{Key, height, leaf_count}
use Rattle.dn_lms.specs.Tree.{node}

-- node r stands t levels above the leaves of a tree of height h
pub record StandsAt (h t r : ℕ) : Type 0 where
  pub within : t ≤ h
  pub first : 2 ^ (h - t) ≤ r
  pub last : r < 2 * 2 ^ (h - t)

-- the list has the tree's nodes above place n
pub record HasAbove (key : Key) (tree : List (List ℕ)) (n : ℕ) : Type 0 where
  pub size : length tree ≡ 2 * leaf_count key
  pub nodes : (t r : ℕ) → StandsAt (height key.lms) t r → n < r → slice_index_or tree r [] ≡ node key t r

-- the list has the tree's leaves
pub record HasLeaves (key : Key) (tree : List (List ℕ)) : Type 0 where
  pub size : length tree ≡ 2 * leaf_count key
  pub leaves : (q : ℕ) → q < leaf_count key → slice_index_or tree (leaf_count key + q) [] ≡ node key 0 (leaf_count key + q)

-- the list has the whole tree
abbrev pub HasTree : Key → List (List ℕ) → Type 0
HasTree key tree = HasAbove key tree 0
