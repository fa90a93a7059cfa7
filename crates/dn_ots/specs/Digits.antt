-- The digits of a hash that say how far each chain goes (RFC 8554 sections 3.1.3 and 4.4).
use Rattle.std.specs.Prelude.{ℕ, zero, suc, ◌+◌, ◌-◌, ◌*◌, ◌/◌, ◌%◌, ◌^◌, List, ◌++◌, slice_index}
use Rattle.std.specs.Int.{w16, to_be_bytes}
use Rattle.dn_ots.specs.Parameters.{width, last_step, shift}

-- coef(S, i, w): the i-th field of w bits, from the left
unfoldable pub coef : List ℕ → ℕ → ℕ → ℕ
coef s i w = slice_index s (i * w / 8) / 2 ^ (8 - (w * (i % (8 / w)) + w)) % 2 ^ w

-- f 0 + … + f (n - 1)
unfoldable pub sum_below : (ℕ → ℕ) → ℕ → ℕ
sum_below f zero = 0
sum_below f (suc n) = sum_below f n + f n

-- Cksm(S): what the digits of a hash lack of their greatest value, summed, and shifted to the left
unfoldable pub checksum : ℕ → List ℕ → ℕ
checksum code s =
    sum_below (λ i. last_step code - coef s i (width code)) (256 / width code) * 2 ^ shift code

-- Q || Cksm(Q)
unfoldable pub with_checksum : ℕ → List ℕ → List ℕ
with_checksum code s = s ++ to_be_bytes w16 (checksum code s)
