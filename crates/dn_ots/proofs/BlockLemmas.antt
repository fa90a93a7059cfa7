-- A part put into a block.
use Rattle.std.proofs.Common.{◌≡◌, ℕ, ◌+◌, ◌<◌, ◌≤◌, zero, suc, List, ◌++◌, length, take, drop, ap, ◌∙◌, arith, length-append}
use Rattle.std.proofs.lemmas.List.{take_at, drop_at, take-take, take-append-le, drop_all, append-nil, append_assoc, length-take-le, set_split, take-set-le}
use Rattle.std.proofs.Math.ListN.{set}
use Rattle.sha2.specs.Sha256.{sha256}
use Rattle.dn_ots.specs.Chain.{chain_step}

-- the list b is the list a with the part put in at a place
abbrev pub Puts : List ℕ → List ℕ → ℕ → List ℕ → Type 0
Puts a b at part = b ≡ take at a ++ part ++ drop (at + length part) a

front_length : (a part : List ℕ) (at : ℕ) → at ≤ length a → length (take at a ++ part) ≡ at + length part
front_length a part at h = omega (arith, length-append (take at a) part, length-take-le at a h)

-- up to the part's end
pub take_put : (a b part : List ℕ) (at m : ℕ) → Puts a b at part → at ≤ length a → m ≡ at + length part → take m b ≡ take at a ++ part
take_put a b part at m e h em =
    rw e (take_at (take at a ++ part) (drop (at + length part) a) m (omega (arith, front_length a part at h)))

-- before the part
pub take_before : (a b part : List ℕ) (at m : ℕ) → Puts a b at part → at ≤ length a → m ≤ at → take m b ≡ take m a
take_before a b part at m e h le =
    let front : m ≤ length (take at a ++ part) = omega (arith, front_length a part at h) in
    let inner : m ≤ length (take at a) = omega (arith, length-take-le at a h) in
    rw (e, take-append-le m (take at a ++ part) (drop (at + length part) a) front, take-append-le m (take at a) part inner) (take-take m at a le)

-- from a part on that ends the list
pub drop_put : (a b part : List ℕ) (at : ℕ) → Puts a b at part → at ≤ length a → length a ≤ at + length part → drop at b ≡ part
drop_put a b part at e h all =
    rw (e, append_assoc) (drop_at (take at a) (part ++ drop (at + length part) a) at (length-take-le at a h)
    ∙ ap (λ (x : List ℕ). part ++ x) (drop_all (at + length part) a all) ∙ append-nil part)

-- the hash of a block is a step of its chain
pub step_of_block : (a : List ℕ) (j : ℕ) → length a ≡ 55 → sha256 (set a 22 j) ≡ chain_step (take 22 a) j (drop 23 a)
unfolding chain_step
step_of_block a j l = ap sha256 (set_split a 22 j (omega arith))

-- a step taken on a copy: the head stays
pub head_of_step : (a n r : List ℕ) (j : ℕ) → n ≡ set a 22 j → length a ≡ 55 → take 22 r ≡ take 22 n → take 22 r ≡ take 22 a
head_of_step a n r j en l e = e ∙ ap (take 22) en ∙ take-set-le 22 a 22 j (omega arith)

-- and the value is the step's
pub value_of_step : (a n r v : List ℕ) (j : ℕ) → n ≡ set a 22 j → length a ≡ 55 → v ≡ sha256 n → drop 23 r ≡ v → drop 23 r ≡ chain_step (take 22 a) j (drop 23 a)
value_of_step a n r v j en l ev e = e ∙ ev ∙ ap sha256 en ∙ step_of_block a j l

-- what holds of each of four
pub below_four : (P : ℕ → Type 0) → P 0 → P 1 → P 2 → P 3 → (k : ℕ) → k < 4 → P k
below_four P a b c d zero h = a
below_four P a b c d (suc zero) h = b
below_four P a b c d (suc (suc zero)) h = c
below_four P a b c d (suc (suc (suc zero))) h = d
below_four P a b c d (suc (suc (suc (suc k)))) h = absurd (omega arith)
