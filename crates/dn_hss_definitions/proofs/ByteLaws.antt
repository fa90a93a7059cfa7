-- Public keys and signatures are bytes.
use Rattle.std.proofs.Common.{ℕ, zero, suc, ◌+◌, ◌*◌, ◌<◌, List, [], ◌∷◌, ◌++◌, arith}
use Rattle.std.specs.Prelude.{slice_index}
use Rattle.std.specs.Int.{w32, to_be_bytes, to_le_bytes}
use Rattle.std.specs.List.{flat_map, range_with_len}
use Rattle.sha2.specs.Sha256.{sha256, digest_bytes}
use Rattle.rand_chacha.specs.ChaCha.{word_at, key_of}
use Rattle.dn_ots.specs.Chain.{chain_head, chain, chain_step, chain_start}
use Rattle.dn_ots.specs.Ots.{joined, randomizer, digit, ots_signature}
use Rattle.dn_ots.specs.Parameters.{chain_count}
use Rattle.dn_roster.specs.Dealing.{dealt}
use Rattle.dn_lms_definitions.specs.Key.{Key, height}
use Rattle.dn_lms_definitions.specs.Tree.{leaf_hash, inner_hash, node, root, path_node}
use Rattle.dn_lms_definitions.specs.Signature.{public_key, lms_signature}
use Rattle.dn_hss_definitions.specs.Hss.{TwoLevelKey, top_of, second_of, hss_public_key, hss_signature}

pub record AreBytes (xs : List ℕ) : Type 0 where
  pub at : (i : ℕ) → slice_index xs i < 256

no_bytes : AreBytes []
no_bytes = record { at = λ i. omega arith }

more_at : (b : ℕ) (xs : List ℕ) → b < 256 → AreBytes xs → (i : ℕ) → slice_index (b ∷ xs) i < 256
more_at b xs h hs zero = h
more_at b xs h hs (suc i) = hs.at i

rest_bytes : (b : ℕ) (xs : List ℕ) → AreBytes (b ∷ xs) → AreBytes xs
rest_bytes b xs h = record { at = λ i. h.at (suc i) }

both_bytes : (xs ys : List ℕ) → AreBytes xs → AreBytes ys → AreBytes (xs ++ ys)
both_bytes [] ys h k = k
both_bytes (x ∷ xs) ys h k = record { at = more_at x (xs ++ ys) (h.at zero) (both_bytes xs ys (rest_bytes x xs h) k) }

number_byte : (n i : ℕ) → slice_index (to_be_bytes w32 n) i < 256
number_byte n zero = omega arith
number_byte n (suc zero) = omega arith
number_byte n (suc (suc zero)) = omega arith
number_byte n (suc (suc (suc zero))) = omega arith
number_byte n (suc (suc (suc (suc i)))) = omega arith

number_bytes : (n : ℕ) → AreBytes (to_be_bytes w32 n)
number_bytes n = record { at = number_byte n }

word_byte : (n i : ℕ) → slice_index (to_le_bytes w32 n) i < 256
word_byte n zero = omega arith
word_byte n (suc zero) = omega arith
word_byte n (suc (suc zero)) = omega arith
word_byte n (suc (suc (suc zero))) = omega arith
word_byte n (suc (suc (suc (suc i)))) = omega arith

word_bytes : (n : ℕ) → AreBytes (to_le_bytes w32 n)
word_bytes n = record { at = word_byte n }

all_bytes : (f : ℕ → List ℕ) → ((x : ℕ) → AreBytes (f x)) → (xs : List ℕ) → AreBytes (flat_map f xs)
all_bytes f h [] = no_bytes
all_bytes f h (x ∷ xs) = both_bytes (f x) (flat_map f xs) (h x) (all_bytes f h xs)

dealt_bytes : (seed : List ℕ) (stream place words : ℕ) → AreBytes (dealt seed stream place words)
unfolding dealt
dealt_bytes seed stream place words =
    all_bytes (λ t. to_le_bytes w32 (word_at 10 (key_of seed) stream (place + t))) (λ t. word_bytes (word_at 10 (key_of seed) stream (place + t))) (range_with_len 0 words)

digest_words : (h : List ℕ) (n : ℕ) → AreBytes (digest_bytes h n)
unfolding digest_bytes
digest_words h zero = no_bytes
digest_words h (suc n) = both_bytes (digest_bytes h n) (to_be_bytes w32 (slice_index h n)) (digest_words h n) (number_bytes (slice_index h n))

pub sha256_bytes : (m : List ℕ) → AreBytes (sha256 m)
unfolding sha256
sha256_bytes m = digest_words _ 8

joined_bytes : (f : ℕ → List ℕ) → ((i : ℕ) → AreBytes (f i)) → (n : ℕ) → AreBytes (joined f n)
unfolding joined
joined_bytes f h zero = no_bytes
joined_bytes f h (suc n) = both_bytes (joined f n) (f n) (joined_bytes f h n) (h n)

step_bytes : (head : List ℕ) (j : ℕ) (x : List ℕ) → AreBytes (chain_step head j x)
unfolding chain_step
step_bytes head j x = sha256_bytes (head ++ j ∷ x)

chain_bytes : (head : List ℕ) (j n : ℕ) (x : List ℕ) → AreBytes x → AreBytes (chain head j n x)
unfolding chain
chain_bytes head j zero x h = h
chain_bytes head j (suc n) x h = step_bytes head (j + n) (chain head j n x)

start_bytes : (id : List ℕ) (q : ℕ) (seed : List ℕ) (i : ℕ) → AreBytes (chain_start id q seed i)
unfolding chain_start
start_bytes id q seed i = step_bytes (chain_head id q i) 0xff seed

randomizer_bytes : (id : List ℕ) (q : ℕ) (seed : List ℕ) → AreBytes (randomizer id q seed)
unfolding randomizer
randomizer_bytes id q seed = sha256_bytes _

ots_bytes : (code : ℕ) (id : List ℕ) (q : ℕ) (seed msg : List ℕ) → AreBytes (ots_signature code id q seed msg)
unfolding ots_signature
ots_bytes code id q seed msg =
    both_bytes _ _ (both_bytes _ _ (number_bytes code) (randomizer_bytes id q seed))
    (joined_bytes _ (λ i. chain_bytes (chain_head id q i) 0 (digit code id q (randomizer id q seed) msg i) (chain_start id q seed i) (start_bytes id q seed i)) (chain_count code))

node_bytes : (key : Key) (t r : ℕ) → AreBytes (node key t r)
unfolding node leaf_hash inner_hash
node_bytes key zero r = sha256_bytes _
node_bytes key (suc t) r = sha256_bytes _

path_bytes : (key : Key) (q i : ℕ) → AreBytes (path_node key q i)
unfolding path_node
path_bytes key q i = node_bytes key i _

lms_bytes : (key : Key) (q : ℕ) (msg : List ℕ) → AreBytes (lms_signature key q msg)
unfolding lms_signature
lms_bytes key q msg =
    both_bytes _ _ (both_bytes _ _ (both_bytes _ _ (number_bytes q) (ots_bytes key.ots key.id q key.seed msg)) (number_bytes key.lms))
    (joined_bytes (path_node key q) (path_bytes key q) (height key.lms))

root_bytes : (key : Key) → AreBytes (root key)
unfolding root
root_bytes key = node_bytes key (height key.lms) 1

public_bytes : (key : Key) → AreBytes key.id → AreBytes (public_key key)
unfolding public_key
public_bytes key id = both_bytes _ _ (both_bytes _ _ (both_bytes _ _ (number_bytes key.lms) (number_bytes key.ots)) id) (root_bytes key)

top_bytes : (key : TwoLevelKey) → AreBytes (public_key (top_of key))
unfolding top_of
top_bytes key = public_bytes _ (dealt_bytes key.seed 10 0 4)

second_bytes : (key : TwoLevelKey) (t : ℕ) → AreBytes (public_key (second_of key t))
unfolding second_of
second_bytes key t = public_bytes _ (dealt_bytes key.seed 11 (16 * t) 4)

pub hss_public_key_bytes : (key : TwoLevelKey) → AreBytes (hss_public_key key)
unfolding hss_public_key
hss_public_key_bytes key = both_bytes _ _ (number_bytes 2) (top_bytes key)

pub hss_signature_bytes : (key : TwoLevelKey) (q : ℕ) (msg : List ℕ) → AreBytes (hss_signature key q msg)
unfolding hss_signature
hss_signature_bytes key q msg =
    both_bytes _ _ (both_bytes _ _ (both_bytes _ _ (number_bytes 1) (lms_bytes (top_of key) _ _)) (second_bytes key _)) (lms_bytes (second_of key _) _ msg)
