-- LM-OTS (RFC 8554 section 4) with the key derivation of its Appendix A. A key is its type code, its
-- identifier I of 16 bytes, its leaf number q and its seed.
use Rattle.std.specs.Prelude.{ℕ, zero, suc, ◌+◌, ◌-◌, ◌*◌, List, [], ◌∷◌, ◌++◌, take, drop}
use Rattle.std.specs.Int.{w32, to_be_bytes}
use Rattle.sha2.specs.Sha256.{sha256}
use Rattle.dn_ots.specs.Parameters.{width, chain_count, last_step}
use Rattle.dn_ots.specs.Chain.{leaf_head, chain_head, chain, chain_start}
use Rattle.dn_ots.specs.Digits.{coef, with_checksum}

-- f 0 || … || f (n - 1)
unfoldable pub joined : (ℕ → List ℕ) → ℕ → List ℕ
joined f zero = []
joined f (suc n) = joined f n ++ f n

-- K from the last values of the chains: H(I || u32str(q) || u16str(D_PBLC) || y[0] || .. || y[p-1])
unfoldable pub key_of_ends : List ℕ → ℕ → List ℕ → List ℕ
key_of_ends id q ends = sha256 (leaf_head id q ++ 0x80 ∷ 0x80 ∷ ends)

-- K (section 4.3)
unfoldable pub ots_public : ℕ → List ℕ → ℕ → List ℕ → List ℕ
ots_public code id q seed = key_of_ends id q
    (joined (λ i. chain (chain_head id q i) 0 (last_step code) (chain_start id q seed i)) (chain_count code))

-- C, this project's own: H(I || u32str(q) || 0xfffd || u8str(0xff) || SEED)
unfoldable pub randomizer : List ℕ → ℕ → List ℕ → List ℕ
randomizer id q seed = sha256 (leaf_head id q ++ 0xff ∷ 0xfd ∷ 0xff ∷ seed)

-- Q: H(I || u32str(q) || u16str(D_MESG) || C || message)
unfoldable pub message_hash : List ℕ → ℕ → List ℕ → List ℕ → List ℕ
message_hash id q c msg = sha256 (leaf_head id q ++ 0x81 ∷ 0x81 ∷ (c ++ msg))

-- a: how far chain i goes for a message
unfoldable pub digit : ℕ → List ℕ → ℕ → List ℕ → List ℕ → ℕ → ℕ
digit code id q c msg i = coef (with_checksum code (message_hash id q c msg)) i (width code)

-- the signature (section 4.5): u32str(type) || C || y[0] || .. || y[p-1]
unfoldable pub ots_signature : ℕ → List ℕ → ℕ → List ℕ → List ℕ → List ℕ
ots_signature code id q seed msg = to_be_bytes w32 code ++ randomizer id q seed ++ joined
    (λ i. chain (chain_head id q i) 0 (digit code id q (randomizer id q seed) msg i) (chain_start id q seed i))
    (chain_count code)

-- C of a signature
abbrev pub randomizer_in : List ℕ → List ℕ
randomizer_in sig = take 32 (drop 4 sig)

-- y[i] of a signature
abbrev pub value_in : List ℕ → ℕ → List ℕ
value_in sig i = take 32 (drop (36 + 32 * i) sig)

-- the rest of a chain, from the value that a signature has
abbrev pub chain_rest : ℕ → List ℕ → List ℕ → ℕ → List ℕ
chain_rest last head x steps = chain head steps (last - steps) x

-- Kc, the candidate for K from a signature (section 4.6, algorithm 4b)
unfoldable pub ots_candidate : ℕ → List ℕ → ℕ → List ℕ → List ℕ → List ℕ
ots_candidate code id q msg sig = key_of_ends id q (joined
    (λ i. chain_rest (last_step code) (chain_head id q i) (value_in sig i) (digit code id q (randomizer_in sig) msg i))
    (chain_count code))
