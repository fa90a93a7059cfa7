-- The lengths of digests.
use Rattle.std.proofs.Common.{◌≡◌, ℕ, List, ◌++◌, length, refl, arith}
use Rattle.std.specs.Prelude.{codes}
use Rattle.std.proofs.lemmas.List.{length-take-le}
use Rattle.sha2.specs.Sha256.{sha256, digest_bytes}
use Rattle.dn_hash.specs.Digests.{block_check_of}

-- a digest has 32 bytes
pub length-sha256 : (m : List ℕ) → length (sha256 m) ≡ 32
unfolding sha256 digest_bytes
length-sha256 m = refl

-- a block's check has 8
pub length-block_check_of : (rest : List ℕ) → length (block_check_of rest) ≡ 8
unfolding block_check_of
length-block_check_of rest = length-take-le 8 (sha256 (codes "dnblock" ++ rest)) (omega (arith, length-sha256 (codes "dnblock" ++ rest)))
