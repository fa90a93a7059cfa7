-- The Merkle tree of a key (RFC 8554 section 5.3), from its root. Node 1 is the root, below node r
-- stand the nodes 2r and 2r + 1, and node 2^h + q is leaf q.
use Rattle.std.specs.Prelude.{ℕ, zero, suc, ◌+◌, ◌-◌, ◌*◌, ◌/◌, ◌%◌, ◌^◌, ◌==◌, List, ◌∷◌, ◌++◌, take, drop, if◌then◌else◌}
use Rattle.std.specs.Int.{w32, to_be_bytes}
use Rattle.sha2.specs.Sha256.{sha256}
use Rattle.dn_ots.specs.Ots.{ots_public}
use Rattle.dn_lms_definitions.specs.Key.{Key, height, leaf_count}

-- a leaf: H(I || u32str(r) || u16str(D_LEAF) || K)
unfoldable pub leaf_hash : List ℕ → ℕ → List ℕ → List ℕ
leaf_hash id r k = sha256 (id ++ to_be_bytes w32 r ++ 0x82 ∷ 0x82 ∷ k)

-- an inner node: H(I || u32str(r) || u16str(D_INTR) || T[2r] || T[2r+1])
unfoldable pub inner_hash : List ℕ → ℕ → List ℕ → List ℕ → List ℕ
inner_hash id r left right = sha256 (id ++ to_be_bytes w32 r ++ 0x83 ∷ 0x83 ∷ (left ++ right))

-- T[r], of a node r that stands t levels above the leaves
unfoldable pub node : Key → ℕ → ℕ → List ℕ
node key zero r = leaf_hash key.id r (ots_public key.ots key.id (r - leaf_count key) key.seed)
node key (suc t) r = inner_hash key.id r (node key t (2 * r)) (node key t (2 * r + 1))

-- T[1]
unfoldable pub root : Key → List ℕ
root key = node key (height key.lms) 1

-- the other node below the same one: r xor 1
unfoldable pub sibling : ℕ → ℕ
sibling r = if r % 2 == 0 then r + 1 else r - 1

-- path[i] of leaf q (section 5.4.1): the node beside the one on the way, i levels above the leaves
unfoldable pub path_node : Key → ℕ → ℕ → List ℕ
path_node key q i = node key i (sibling ((leaf_count key + q) / 2 ^ i))

-- the value above a node r of value x, the value beside it on the left where r is odd and on the
-- right where it is even (section 5.4.2, algorithm 6a)
unfoldable pub rise : List ℕ → ℕ → List ℕ → List ℕ → List ℕ
rise id r x beside =
    if r % 2 == 0 then inner_hash id (r / 2) x beside else inner_hash id (r / 2) beside x

-- path[i] of a path's bytes
abbrev pub path_part : List ℕ → ℕ → List ℕ
path_part path i = take 32 (drop (32 * i) path)

-- the value n levels above node r of value x
unfoldable pub climb : List ℕ → List ℕ → ℕ → List ℕ → ℕ → List ℕ
climb id path r x zero = x
climb id path r x (suc n) = rise id (r / 2 ^ n) (climb id path r x n) (path_part path n)
