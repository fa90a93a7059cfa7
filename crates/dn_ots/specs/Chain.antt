-- The hash chains of LM-OTS (RFC 8554 sections 4.3 and 4.4), and their starts (Appendix A).
use Rattle.std.specs.Prelude.{ℕ, zero, suc, ◌+◌, List, ◌∷◌, ◌++◌}
use Rattle.std.specs.Int.{w16, w32, to_be_bytes}
use Rattle.sha2.specs.Sha256.{sha256}

-- what each hash of leaf q begins with: I || u32str(q)
unfoldable pub leaf_head : List ℕ → ℕ → List ℕ
leaf_head id q = id ++ to_be_bytes w32 q

-- what each hash of chain i begins with: I || u32str(q) || u16str(i)
unfoldable pub chain_head : List ℕ → ℕ → ℕ → List ℕ
chain_head id q i = leaf_head id q ++ to_be_bytes w16 i

-- step j of the chain with this head: H(I || u32str(q) || u16str(i) || u8str(j) || tmp)
unfoldable pub chain_step : List ℕ → ℕ → List ℕ → List ℕ
chain_step head j x = sha256 (head ++ j ∷ x)

-- the value after n steps from step j on
unfoldable pub chain : List ℕ → ℕ → ℕ → List ℕ → List ℕ
chain head j zero x = x
chain head j (suc n) x = chain_step head (j + n) (chain head j n x)

-- x[i], where chain i of leaf q starts: H(I || u32str(q) || u16str(i) || u8str(0xff) || SEED)
unfoldable pub chain_start : List ℕ → ℕ → List ℕ → ℕ → List ℕ
chain_start id q seed i = chain_step (chain_head id q i) 0xff seed
