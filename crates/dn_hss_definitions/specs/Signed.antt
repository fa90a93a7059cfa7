-- Which leaf of which tree of a key signs what.
use Rattle.std.specs.Prelude.{◌≡◌, ℕ, ◌/◌, ◌%◌, List}
use Rattle.dn_hss_definitions.specs.Hss.{TwoLevelKey, tree_leaves, second_public_key}

-- a leaf of the top tree, or of the second tree of a number
pub data TreeLeaf : Type 0 where
  top : (leaf : ℕ) → TreeLeaf
  second : (tree leaf : ℕ) → TreeLeaf

-- In the signature of a message at leaf q, the leaf of a tree signs these bytes: the top tree's the public key of the second tree of its
-- number, the second tree's the message.
abbrev pub LeafSigns : TwoLevelKey → ℕ → List ℕ → TreeLeaf → List ℕ → Type 0
LeafSigns key q msg (top leaf) bytes = (leaf ≡ q / tree_leaves key) × (bytes ≡ second_public_key key leaf)
LeafSigns key q msg (second tree leaf) bytes = (tree ≡ q / tree_leaves key) × (leaf ≡ q % tree_leaves key) × (bytes ≡ msg)
