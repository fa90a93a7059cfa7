-- What a key signs verifies under its public key.
use Rattle.std.proofs.Common.{◌≡◌, ℕ, zero, suc, ◌+◌, ◌*◌, ◌/◌, ◌%◌, ◌^◌, ◌<◌, ◌≤◌, List, [], ◌++◌, length, take, drop, refl, sym, ap, ◌∙◌, arith, length-append, add-one}
use Rattle.std.specs.List.{flat_map, range_with_len}
use Rattle.std.proofs.lemmas.List.{append_assoc, append-nil, take_at, drop_at, drop-drop}
use Rattle.std.proofs.Math.Nat.{div-lt_iff_lt-mul, mod-lt, div-add-mod}
use Rattle.std.proofs.lemmas.Nat.{from_be_bytes-to_be_bytes_4}
use Rattle.std.specs.Int.{w32, to_be_bytes, from_be_bytes, to_le_bytes}
use Rattle.rand_chacha.specs.ChaCha.{word_at, key_of}
use Rattle.dn_roster.specs.Dealing.{dealt}
use Rattle.dn_roster.proofs.DealingLemmas.{flat_map-more}
use Rattle.dn_lms_definitions.specs.Key.{Key, IsKey, leaf_count}
use Rattle.dn_lms_definitions.specs.Signature.{public_key, lms_signature, lms_length, lms_in, ots_in, number_at}
use Rattle.dn_lms_definitions.proofs.Laws.{sizes, length-public_key, length-lms_signature, lms_signature-verifies}
use Rattle.dn_hss_definitions.specs.Hss.{TwoLevelKey, IsTwoLevelKey, tree_leaves, hss_count, top_of, second_of, hss_public_key, second_public_key, hss_signature, top_in, top_length, top_signature_in, second_in, second_signature_in, HssVerifies}
use Rattle.dn_hss_definitions.specs.Signed.{TreeLeaf, LeafSigns}
use Rattle.dn_hss_definitions.specs.Signed.TreeLeaf.{top, second}

-- ---- the trees are keys

pub length-dealt : (seed : List ℕ) (stream place words : ℕ) → length (dealt seed stream place words) ≡ 4 * words
unfolding dealt
length-dealt seed stream place zero = refl
length-dealt seed stream place (suc words) =
    let word : ℕ → List ℕ = λ t. to_le_bytes w32 (word_at 10 (key_of seed) stream (place + t)) in
    let four : length (word words) ≡ 4 = refl in
    ap length (ap (λ (n : ℕ). flat_map word (range_with_len 0 n)) (sym (add-one words)) ∙ flat_map-more word words)
    ∙ omega (arith, length-append (flat_map word (range_with_len 0 words)) (word words), length-dealt seed stream place words, four)

pub top_is_key : (key : TwoLevelKey) → IsTwoLevelKey key → IsKey (top_of key)
unfolding top_of
top_is_key key k = record {
  lms_known = k.lms_known;
  ots_known = k.ots_known;
  id_long = length-dealt key.seed 10 0 4;
  seed_long = length-dealt key.seed 10 (0 + 4) 8;
}

pub second_is_key : (key : TwoLevelKey) (t : ℕ) → IsTwoLevelKey key → IsKey (second_of key t)
unfolding second_of
second_is_key key t k = record {
  lms_known = k.lms_known;
  ots_known = k.ots_known;
  id_long = length-dealt key.seed 11 (16 * t) 4;
  seed_long = length-dealt key.seed 11 (16 * t + 4) 8;
}

-- ---- the parts of a public key and of a signature

public_is : (key : TwoLevelKey) → hss_public_key key ≡ to_be_bytes w32 2 ++ public_key (top_of key)
unfolding hss_public_key
public_is key = refl

pub top_in-public : (key : TwoLevelKey) → top_in (hss_public_key key) ≡ public_key (top_of key)
top_in-public key = ap (drop 4) (public_is key) ∙ drop_at (to_be_bytes w32 2) (public_key (top_of key)) 4 refl

pub length-hss_public_key : (key : TwoLevelKey) → IsTwoLevelKey key → length (hss_public_key key) ≡ 60
length-hss_public_key key k =
    let four : length (to_be_bytes w32 2) ≡ 4 = refl in
    ap length (public_is key)
    ∙ omega (arith, length-append (to_be_bytes w32 2) (public_key (top_of key)), length-public_key (top_of key) (top_is_key key k), four)

levels_in : (key : TwoLevelKey) → number_at (hss_public_key key) 0 ≡ 2
unfolding number_at
levels_in key = ap (λ (x : List ℕ). from_be_bytes w32 (take 4 (drop 0 x))) (public_is key)

-- the bytes of a signature by a tree of a key
abbrev tree_length : TwoLevelKey → ℕ
tree_length key = lms_length key.lms key.ots

lengths_in : (k : Key) → IsKey k → 0 < leaf_count k → lms_length (lms_in (public_key k)) (ots_in (public_key k)) ≡ lms_length k.lms k.ots
lengths_in k known some = sym (lms_signature-verifies k 0 [] known some).long ∙ length-lms_signature k 0 []

top_codes : (key : TwoLevelKey) → lms_length (top_of key).lms (top_of key).ots ≡ tree_length key
unfolding top_of
top_codes key = refl

second_codes : (key : TwoLevelKey) (t : ℕ) → lms_length (second_of key t).lms (second_of key t).ots ≡ tree_length key
unfolding second_of
second_codes key t = refl

pub top_count : (key : TwoLevelKey) → leaf_count (top_of key) ≡ tree_leaves key
unfolding top_of
top_count key = refl

pub second_count : (key : TwoLevelKey) (t : ℕ) → leaf_count (second_of key t) ≡ tree_leaves key
unfolding second_of
second_count key t = refl

pub top_length-public : (key : TwoLevelKey) → IsTwoLevelKey key → top_length (hss_public_key key) ≡ tree_length key
unfolding top_length
top_length-public key k =
    let s = sizes key.lms k.lms_known in
    ap (λ (x : List ℕ). lms_length (lms_in x) (ots_in x)) (top_in-public key)
    ∙ lengths_in (top_of key) (top_is_key key k) (omega (arith, top_count key)) ∙ top_codes key

-- the parts of the signature at leaf q
abbrev top_part : TwoLevelKey → ℕ → List ℕ
top_part key t = lms_signature (top_of key) t (second_public_key key t)

abbrev second_part : TwoLevelKey → ℕ → ℕ → List ℕ → List ℕ
second_part key t leaf msg = lms_signature (second_of key t) leaf msg

abbrev behind_count : TwoLevelKey → ℕ → List ℕ → List ℕ
behind_count key q msg =
    let t = q / tree_leaves key in
    top_part key t ++ (second_public_key key t ++ second_part key t (q % tree_leaves key) msg)

signature_is : (key : TwoLevelKey) (q : ℕ) (msg : List ℕ) → hss_signature key q msg ≡ to_be_bytes w32 1 ++ behind_count key q msg
unfolding hss_signature
signature_is key q msg = simp append_assoc

signed_keys_in : (key : TwoLevelKey) (q : ℕ) (msg : List ℕ) → number_at (hss_signature key q msg) 0 ≡ 1
unfolding number_at
signed_keys_in key q msg = ap (λ (x : List ℕ). from_be_bytes w32 (take 4 (drop 0 x))) (signature_is key q msg)

behind_four : (key : TwoLevelKey) (q : ℕ) (msg : List ℕ) → drop 4 (hss_signature key q msg) ≡ behind_count key q msg
behind_four key q msg = ap (drop 4) (signature_is key q msg) ∙ drop_at (to_be_bytes w32 1) (behind_count key q msg) 4 refl

length-top_part : (key : TwoLevelKey) (t : ℕ) → length (top_part key t) ≡ tree_length key
length-top_part key t = length-lms_signature (top_of key) t (second_public_key key t) ∙ top_codes key

pub top_signature_in-signature : (key : TwoLevelKey) (q : ℕ) (msg : List ℕ) → IsTwoLevelKey key
    → top_signature_in (hss_public_key key) (hss_signature key q msg) ≡ top_part key (q / tree_leaves key)
top_signature_in-signature key q msg k =
    let t = q / tree_leaves key in
    ap (λ (n : ℕ). take n (drop 4 (hss_signature key q msg))) (top_length-public key k)
    ∙ ap (take (tree_length key)) (behind_four key q msg)
    ∙ take_at (top_part key t) (second_public_key key t ++ second_part key t (q % tree_leaves key) msg) (tree_length key) (length-top_part key t)

behind_top : (key : TwoLevelKey) (q : ℕ) (msg : List ℕ) → IsTwoLevelKey key
    → drop (4 + top_length (hss_public_key key)) (hss_signature key q msg)
    ≡ second_public_key key (q / tree_leaves key) ++ second_part key (q / tree_leaves key) (q % tree_leaves key) msg
behind_top key q msg k =
    let t = q / tree_leaves key in
    ap (λ (n : ℕ). drop (4 + n) (hss_signature key q msg)) (top_length-public key k)
    ∙ sym (drop-drop (tree_length key) 4 (hss_signature key q msg))
    ∙ ap (drop (tree_length key)) (behind_four key q msg)
    ∙ drop_at (top_part key t) (second_public_key key t ++ second_part key t (q % tree_leaves key) msg) (tree_length key) (length-top_part key t)

pub length-second_public_key : (key : TwoLevelKey) (t : ℕ) → IsTwoLevelKey key → length (second_public_key key t) ≡ 56
length-second_public_key key t k = length-public_key (second_of key t) (second_is_key key t k)

second_in-signature : (key : TwoLevelKey) (q : ℕ) (msg : List ℕ) → IsTwoLevelKey key
    → second_in (hss_public_key key) (hss_signature key q msg) ≡ second_public_key key (q / tree_leaves key)
second_in-signature key q msg k =
    let t = q / tree_leaves key in
    ap (take 56) (behind_top key q msg k)
    ∙ take_at (second_public_key key t) (second_part key t (q % tree_leaves key) msg) 56 (length-second_public_key key t k)

pub second_signature_in-signature : (key : TwoLevelKey) (q : ℕ) (msg : List ℕ) → IsTwoLevelKey key
    → second_signature_in (hss_public_key key) (hss_signature key q msg) ≡ second_part key (q / tree_leaves key) (q % tree_leaves key) msg
second_signature_in-signature key q msg k =
    let t = q / tree_leaves key in
    let at : 60 + top_length (hss_public_key key) ≡ 4 + top_length (hss_public_key key) + 56 = omega arith in
    rw at (sym (drop-drop 56 (4 + top_length (hss_public_key key)) (hss_signature key q msg))
    ∙ ap (drop 56) (behind_top key q msg k)
    ∙ drop_at (second_public_key key t) (second_part key t (q % tree_leaves key) msg) 56 (length-second_public_key key t k))

pub length-hss_signature : (key : TwoLevelKey) (q : ℕ) (msg : List ℕ) → IsTwoLevelKey key
    → length (hss_signature key q msg) ≡ 60 + 2 * lms_length key.lms key.ots
length-hss_signature key q msg k =
    let t = q / tree_leaves key in
    let four : length (to_be_bytes w32 1) ≡ 4 = refl in
    let last = second_part key t (q % tree_leaves key) msg in
    let behind = second_public_key key t ++ last in
    ap length (signature_is key q msg)
    ∙ omega (
      arith,
      four,
      length-append (to_be_bytes w32 1) (behind_count key q msg),
      length-append (top_part key t) behind,
      length-append (second_public_key key t) last,
      length-top_part key t,
      length-second_public_key key t k,
      length-lms_signature (second_of key t) (q % tree_leaves key) msg,
      second_codes key t,
    )

-- ---- leaves of the trees

pub tree_within : (key : TwoLevelKey) (q : ℕ) → IsTwoLevelKey key → q < hss_count key → q / tree_leaves key < tree_leaves key
unfolding hss_count
tree_within key q k lt =
    let s = sizes key.lms k.lms_known in
    let some : 0 < tree_leaves key = omega (arith, s.some) in
    (div-lt_iff_lt-mul some).1 lt

pub leaf_within : (key : TwoLevelKey) (q : ℕ) → IsTwoLevelKey key → q % tree_leaves key < tree_leaves key
leaf_within key q k =
    let s = sizes key.lms k.lms_known in
    let some : 0 < tree_leaves key = omega (arith, s.some) in
    mod-lt q some

-- ---- what is signed verifies

pub hss_signature-verifies : (key : TwoLevelKey) (q : ℕ) (msg : List ℕ) → IsTwoLevelKey key → q < hss_count key
    → HssVerifies (hss_public_key key) msg (hss_signature key q msg)
hss_signature-verifies key q msg k lt =
    let t = q / tree_leaves key in
    let top = top_in-public key in
    let first = top_signature_in-signature key q msg k in
    let middle = second_in-signature key q msg k in
    let last = second_signature_in-signature key q msg k in
    record {
      key_long = length-hss_public_key key k;
      levels = levels_in key;
      signed_keys = signed_keys_in key q msg;
      top = rw (top, middle, first) (lms_signature-verifies (top_of key) t (second_public_key key t) (top_is_key key k) (rw (top_count key) (tree_within key q k lt)));
      second = rw (middle, last) (lms_signature-verifies (second_of key t) (q % tree_leaves key) msg (second_is_key key t k) (rw (second_count key t) (leaf_within key q k)));
    }

-- ---- no leaf signs two different byte strings

same_draw : (n q p : ℕ) → 0 < n → q / n ≡ p / n → q % n ≡ p % n → q ≡ p
same_draw n q p some tree leaf = sym (div-add-mod q n) ∙ rw (tree, leaf) (div-add-mod p n)

-- where two draws of one number are of one message, a leaf that signs in both signs the same bytes
pub one_string_a_leaf : (key : TwoLevelKey) → IsTwoLevelKey key → (q p : ℕ) (msg other : List ℕ) → (q ≡ p → msg ≡ other)
    → (leaf : TreeLeaf) (bytes again : List ℕ) → LeafSigns key q msg leaf bytes → LeafSigns key p other leaf again → bytes ≡ again
one_string_a_leaf key k q p msg other once (top leaf) bytes again a b = a.1 ∙ sym b.1
one_string_a_leaf key k q p msg other once (second tree leaf) bytes again a b =
    let s = sizes key.lms k.lms_known in
    a.2 ∙ once (same_draw (tree_leaves key) q p (omega (arith, s.some)) (sym a.0 ∙ b.0) (sym a.1 ∙ b.1)) ∙ sym b.2

-- ---- the leaf numbers in a signature

number_of-lms_signature : (key : Key) (q : ℕ) (msg rest : List ℕ) → q < 2 ^ 32 → from_be_bytes w32 (take 4 (lms_signature key q msg ++ rest)) ≡ q
unfolding lms_signature
number_of-lms_signature key q msg rest small = from_be_bytes-to_be_bytes_4 q small

small_leaf : (key : TwoLevelKey) (n : ℕ) → IsTwoLevelKey key → n < tree_leaves key → n < 2 ^ 32
small_leaf key n k lt = let s = sizes key.lms k.lms_known in omega (arith, s.few)

pub top_leaf-signature : (key : TwoLevelKey) (q : ℕ) (msg : List ℕ) → IsTwoLevelKey key → q < hss_count key
    → number_at (hss_signature key q msg) 4 ≡ q / tree_leaves key
unfolding number_at
top_leaf-signature key q msg k lt =
    let t = q / tree_leaves key in
    ap (λ (x : List ℕ). from_be_bytes w32 (take 4 x)) (behind_four key q msg)
    ∙ number_of-lms_signature (top_of key) t (second_public_key key t) (second_public_key key t ++ second_part key t (q % tree_leaves key) msg)
    (small_leaf key t k (tree_within key q k lt))

pub second_leaf-signature : (key : TwoLevelKey) (q : ℕ) (msg : List ℕ) → IsTwoLevelKey key
    → number_at (hss_signature key q msg) (60 + top_length (hss_public_key key)) ≡ q % tree_leaves key
unfolding number_at
second_leaf-signature key q msg k =
    let t = q / tree_leaves key in
    ap (λ (x : List ℕ). from_be_bytes w32 (take 4 x)) (second_signature_in-signature key q msg k ∙ sym (append-nil (second_part key t (q % tree_leaves key) msg)))
    ∙ number_of-lms_signature (second_of key t) (q % tree_leaves key) msg [] (small_leaf key (q % tree_leaves key) k (leaf_within key q k))

pub long_signature : (key : TwoLevelKey) (q : ℕ) (msg : List ℕ) → IsTwoLevelKey key → 64 + top_length (hss_public_key key) ≤ length (hss_signature key q msg)
unfolding lms_length
long_signature key q msg k = omega (arith, length-hss_signature key q msg k, top_length-public key k)
