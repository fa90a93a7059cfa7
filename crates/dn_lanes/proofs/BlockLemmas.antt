-- A message of 55 bytes and its padding are one block, and a lane's words are its state's.
use Rattle.std.proofs.Common.{◌≡◌, ℕ, zero, suc, ◌/◌, ◌<◌, List, [], ◌∷◌, ◌++◌, length, slice_index, refl, sym, ap, ◌∙◌, arith, length-append}
use Rattle.std.proofs.lemmas.List.{take_all, take_at, drop_at, append-nil}
use Rattle.sha2.specs.Sha256.{compress, digest_bytes, hash_after, initial_hash_256, padded_message, padding, sha256}
use Rattle.dn_lanes.specs.Lanes.{lane8, lane_at}
use borrow.Rule.Slice.PartMut.{put_mid}

-- what holds of each of the eight words
below_eight : (P : ℕ → Type 0) → P 0 → P 1 → P 2 → P 3 → P 4 → P 5 → P 6 → P 7 → (k : ℕ) → k < 8 → P k
below_eight P a0 a1 a2 a3 b0 b1 b2 b3 zero h = a0
below_eight P a0 a1 a2 a3 b0 b1 b2 b3 (suc zero) h = a1
below_eight P a0 a1 a2 a3 b0 b1 b2 b3 (suc (suc zero)) h = a2
below_eight P a0 a1 a2 a3 b0 b1 b2 b3 (suc (suc (suc zero))) h = a3
below_eight P a0 a1 a2 a3 b0 b1 b2 b3 (suc (suc (suc (suc zero)))) h = b0
below_eight P a0 a1 a2 a3 b0 b1 b2 b3 (suc (suc (suc (suc (suc zero))))) h = b1
below_eight P a0 a1 a2 a3 b0 b1 b2 b3 (suc (suc (suc (suc (suc (suc zero)))))) h = b2
below_eight P a0 a1 a2 a3 b0 b1 b2 b3 (suc (suc (suc (suc (suc (suc (suc zero))))))) h = b3
below_eight P a0 a1 a2 a3 b0 b1 b2 b3 (suc (suc (suc (suc (suc (suc (suc (suc n)))))))) h = absurd (omega arith)

pub slice_index-lane8 : (x : List (List ℕ)) (j k : ℕ) → k < 8 → slice_index (lane8 j x) k ≡ lane_at x k j
slice_index-lane8 x j = below_eight (λ k. slice_index (lane8 j x) k ≡ lane_at x k j) refl refl refl refl refl refl refl refl

-- the message and then the nine bytes of its padding
pub block_parts : (m p : List ℕ) → length m ≡ 55 → p ≡ 0x80 ∷ 0 ∷ 0 ∷ 0 ∷ 0 ∷ 0 ∷ 0 ∷ 0x01 ∷ 0xb8 ∷ []
    → put_mid 55 9 (m ++ 0 ∷ 0 ∷ 0 ∷ 0 ∷ 0 ∷ 0 ∷ 0 ∷ 0 ∷ 0 ∷ []) p ≡ padded_message m
block_parts m p l e = rw (l, take_at m (0 ∷ 0 ∷ 0 ∷ 0 ∷ 0 ∷ 0 ∷ 0 ∷ 0 ∷ 0 ∷ []) 55 l, drop_at m (0 ∷ 0 ∷ 0 ∷ 0 ∷ 0 ∷ 0 ∷ 0 ∷ 0 ∷ 0 ∷ []) 55 l, append-nil p, e) refl

-- the hash value after one block
hash_of_block : (h p : List ℕ) → length p ≡ 64 → hash_after h p (length p / 64) ≡ compress h p
unfolding hash_after
hash_of_block h p l =
    let count : length p / 64 ≡ 1 = omega arith in
    rw (count, take_all 64 p (omega arith)) refl

-- the digest of a message that fills one block
pub one_block : (m : List ℕ) → length m ≡ 55 → digest_bytes (compress initial_hash_256 (padded_message m)) 8 ≡ sha256 m
unfolding sha256
one_block m l =
    let padded : length (padding (length m)) ≡ 9 = rw l refl in
    let long : length (padded_message m) ≡ 64 = length-append m (padding (length m)) ∙ omega (arith, padded) in
    ap (λ (h : List ℕ). digest_bytes h 8) (sym (hash_of_block initial_hash_256 (padded_message m) long))

-- the digest of a lane, by the steps of the code
pub lane_digest : (d h i m b : List ℕ) → d ≡ digest_bytes h 8 → h ≡ compress i b → i ≡ initial_hash_256 → b ≡ padded_message m → length m ≡ 55 → d ≡ sha256 m
lane_digest d h i m b ed eh ei eb l = ed ∙ rw (eh, ei, eb) (one_block m l)
