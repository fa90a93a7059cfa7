-- Chains, step by step and joined.
use Rattle.std.proofs.Common.{◌≡◌, ℕ, zero, suc, ◌+◌, List, length, refl, arith, add-one, add-zero}
use Rattle.sha2.proofs.Facts256.{length-sha256}
use Rattle.dn_ots.specs.Chain.{chain, chain_step, chain_start}

-- no step yet
pub chain_none : (head x : List ℕ) (j : ℕ) → chain head j 0 x ≡ x
unfolding chain
chain_none head x j = refl

-- one step more
pub chain_more : (head x y : List ℕ) (j i n : ℕ) → y ≡ chain head j n x → i ≡ j + n → chain_step head i y ≡ chain head j (n + 1) x
unfolding chain
chain_more head x y j i n e ei = rw (add-one, e, ei) refl

-- m steps after n are n + m steps
pub chain-chain : (head x : List ℕ) (j n m : ℕ) → chain head (j + n) m (chain head j n x) ≡ chain head j (n + m) x
unfolding chain
chain-chain head x j n zero = rw add-zero refl
chain-chain head x j n (suc m) =
    let before = chain-chain head x j n m in
    let at : j + n + m ≡ j + (n + m) = omega arith in
    let count : n + suc m ≡ suc (n + m) = omega arith in
    rw (count, at, before) refl

-- a chain that goes on to its last value
pub chain_to_end : (head x y : List ℕ) (n m last : ℕ) → y ≡ chain head 0 n x → n + m ≡ last → chain head n m y ≡ chain head 0 last x
chain_to_end head x y n m last ey es =
    let from : 0 + n ≡ n = omega arith in
    let joint = rw from at (chain-chain head x 0 n m) in
    rw (ey, ← es) joint

length-chain_step : (head x : List ℕ) (j : ℕ) → length (chain_step head j x) ≡ 32
unfolding chain_step
length-chain_step head x j = length-sha256 _

-- each value of a chain has 32 bytes
pub length-chain : (head x : List ℕ) (j n : ℕ) → length x ≡ 32 → length (chain head j n x) ≡ 32
unfolding chain
length-chain head x j zero h = h
length-chain head x j (suc n) h = length-chain_step head (chain head j n x) (j + n)

pub length-chain_start : (id seed : List ℕ) (q i : ℕ) → length (chain_start id q seed i) ≡ 32
unfolding chain_start
length-chain_start id seed q i = length-chain_step _ seed 0xff
