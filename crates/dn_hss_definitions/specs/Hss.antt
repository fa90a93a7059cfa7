-- Keys of two levels: a top tree whose leaves sign the public keys of second trees, whose leaves sign messages (RFC 8554 section 6, with
-- L = 2). All trees of a key have one pair of type codes.
use Rattle.std.specs.Prelude.{◌≡◌, ℕ, ◌+◌, ◌*◌, ◌/◌, ◌%◌, List, ◌++◌, length, take, drop}
use Rattle.std.specs.Int.{w32, to_be_bytes}
use Rattle.dn_ots.specs.Parameters.{IsCode}
use Rattle.dn_roster.specs.Dealing.{dealt}
use Rattle.dn_lms_definitions.specs.Key.{Key, IsLms, leaves_of}
use Rattle.dn_lms_definitions.specs.Signature.{Verifies, public_key, lms_signature, lms_length, lms_in, ots_in, number_at}

-- what contracts see of a key: its type codes and its seed
pub record TwoLevelKey : Type 0 where
  pub lms : ℕ
  pub ots : ℕ
  pub seed : List ℕ

-- the codes are known ones, and the seed has its length
pub record IsTwoLevelKey (key : TwoLevelKey) : Type 0 where
  pub lms_known : IsLms key.lms
  pub ots_known : IsCode key.ots
  pub seed_long : length key.seed ≡ 32

-- the number of leaves of each tree, which is that of the second trees too
abbrev pub tree_leaves : TwoLevelKey → ℕ
tree_leaves key = leaves_of key.lms

-- the number of messages that a key can sign
unfoldable pub hss_count : TwoLevelKey → ℕ
hss_count key = tree_leaves key * tree_leaves key

-- The derivation of the trees, this project's own: a tree's identifier and its seed are 16 and 32 bytes of the keystream of the key's
-- seed, from a place of a stream on.
abbrev pub tree_at : TwoLevelKey → ℕ → ℕ → Key
tree_at key stream place = record {
  lms = key.lms;
  ots = key.ots;
  id = dealt key.seed stream place 4;
  seed = dealt key.seed stream (place + 4) 8;
}

-- the top tree: stream 10 from its first place on
unfoldable pub top_of : TwoLevelKey → Key
top_of key = tree_at key 10 0

-- second tree t: stream 11 from place 16 * t on
unfoldable pub second_of : TwoLevelKey → ℕ → Key
second_of key t = tree_at key 11 (16 * t)

-- u32str(L) || the public key of the top tree (section 6.1)
unfoldable pub hss_public_key : TwoLevelKey → List ℕ
hss_public_key key = to_be_bytes w32 2 ++ public_key (top_of key)

-- the public key of second tree t
abbrev pub second_public_key : TwoLevelKey → ℕ → List ℕ
second_public_key key t = public_key (second_of key t)

-- The signature of a message at leaf q (section 6.2): u32str(L - 1) || the signature by the top tree of the second tree's public key ||
-- that public key || the signature of the message by the second tree. The trees' leaves are the quotient and the rest of q by a tree's
-- number of leaves.
unfoldable pub hss_signature : TwoLevelKey → ℕ → List ℕ → List ℕ
hss_signature key q msg =
    let t = q / tree_leaves key in
    to_be_bytes w32 1 ++ lms_signature (top_of key) t (second_public_key key t) ++ second_public_key key t
    ++ lms_signature (second_of key t) (q % tree_leaves key) msg

-- ---- verification

-- the parts of a public key: the top tree's public key
abbrev pub top_in : List ℕ → List ℕ
top_in public = drop 4 public

-- the bytes of a signature by the top tree
unfoldable pub top_length : List ℕ → ℕ
top_length public = lms_length (lms_in (top_in public)) (ots_in (top_in public))

-- the parts of a signature under a public key: the top tree's signature, the second tree's public key, and the second tree's signature
abbrev pub top_signature_in : List ℕ → List ℕ → List ℕ
top_signature_in public sig = take (top_length public) (drop 4 sig)

abbrev pub second_in : List ℕ → List ℕ → List ℕ
second_in public sig = take 56 (drop (4 + top_length public) sig)

abbrev pub second_signature_in : List ℕ → List ℕ → List ℕ
second_signature_in public sig = drop (60 + top_length public) sig

-- When a signature verifies for a message under a public key (section 6.3). That the last part verifies leaves no byte behind it.
pub record HssVerifies (public msg sig : List ℕ) : Type 0 where
  pub key_long : length public ≡ 60
  pub levels : number_at public 0 ≡ 2
  pub signed_keys : number_at sig 0 ≡ 1
  pub top : Verifies (top_in public) (second_in public sig) (top_signature_in public sig)
  pub second : Verifies (second_in public sig) msg (second_signature_in public sig)
