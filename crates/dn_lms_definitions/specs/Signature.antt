-- LMS public keys and signatures, and when one verifies (RFC 8554 sections 5.3 and 5.4).
use Rattle.std.specs.Prelude.{◌≡◌, ℕ, ◌+◌, ◌*◌, ◌<◌, List, ◌++◌, length, take, drop}
use Rattle.std.specs.Int.{w32, to_be_bytes, from_be_bytes}
use Rattle.dn_ots.specs.Parameters.{IsCode, ots_length}
use Rattle.dn_ots.specs.Ots.{joined, ots_signature, ots_candidate}
use Rattle.dn_lms_definitions.specs.Key.{Key, IsLms, height, leaves_of}
use Rattle.dn_lms_definitions.specs.Tree.{root, path_node, leaf_hash, climb}

-- u32str(type) || u32str(otstype) || I || T[1] (section 5.3)
unfoldable pub public_key : Key → List ℕ
public_key key = to_be_bytes w32 key.lms ++ to_be_bytes w32 key.ots ++ key.id ++ root key

-- the signature of a message at leaf q: u32str(q) || lmots_signature || u32str(type) || path[0] || .. ||
-- path[h-1] (section 5.4)
unfoldable pub lms_signature : Key → ℕ → List ℕ → List ℕ
lms_signature key q msg = to_be_bytes w32 q ++ ots_signature key.ots key.id q key.seed msg
    ++ to_be_bytes w32 key.lms ++ joined (path_node key q) (height key.lms)

-- the bytes of a signature
unfoldable pub lms_length : ℕ → ℕ → ℕ
lms_length lms ots = 8 + ots_length ots + 32 * height lms

-- the 32-bit number at a place
unfoldable pub number_at : List ℕ → ℕ → ℕ
number_at bytes at = from_be_bytes w32 (take 4 (drop at bytes))

-- the parts of a public key
abbrev pub lms_in : List ℕ → ℕ
lms_in public = number_at public 0

abbrev pub ots_in : List ℕ → ℕ
ots_in public = number_at public 4

abbrev pub id_in : List ℕ → List ℕ
id_in public = take 16 (drop 8 public)

abbrev pub root_in : List ℕ → List ℕ
root_in public = drop 24 public

-- the parts of a signature with a type code of LM-OTS
abbrev pub leaf_in : List ℕ → ℕ
leaf_in sig = number_at sig 0

abbrev pub ots_signature_in : ℕ → List ℕ → List ℕ
ots_signature_in ots sig = take (ots_length ots) (drop 4 sig)

abbrev pub path_in : ℕ → List ℕ → List ℕ
path_in ots sig = drop (8 + ots_length ots) sig

-- the candidate for the root that a signature gives under type codes and an identifier (algorithm 6a)
unfoldable pub candidate_root : ℕ → ℕ → List ℕ → List ℕ → List ℕ → List ℕ
candidate_root lms ots id msg sig =
    let r = leaves_of lms + leaf_in sig in
    climb id (path_in ots sig) r
    (leaf_hash id r (ots_candidate ots id (leaf_in sig) msg (ots_signature_in ots sig))) (height lms)

-- when a signature verifies for a message under a public key (algorithm 6)
pub record Verifies (public msg sig : List ℕ) : Type 0 where
  pub key_long : length public ≡ 56
  pub lms_known : IsLms (lms_in public)
  pub ots_known : IsCode (ots_in public)
  pub long : length sig ≡ lms_length (lms_in public) (ots_in public)
  pub same_ots : take 4 (drop 4 sig) ≡ to_be_bytes w32 (ots_in public)
  pub same_lms : take 4 (drop (4 + ots_length (ots_in public)) sig) ≡ to_be_bytes w32 (lms_in public)
  pub leaf : leaf_in sig < leaves_of (lms_in public)
  pub root : candidate_root (lms_in public) (ots_in public) (id_in public) msg sig ≡ root_in public
