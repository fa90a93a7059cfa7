-- A digest of pieces.
use Rattle.std.proofs.Common.{◌≡◌, ℕ, List, ◌++◌}
use Rattle.sha2.specs.Sha256.{sha256}

-- the two middle pieces in other words
pub same_pieces : (d t a b p q x : List ℕ) → a ≡ p → b ≡ q → d ≡ sha256 (t ++ a ++ b ++ x) → d ≡ sha256 (t ++ p ++ q ++ x)
same_pieces d t a b p q x left right whole = cc
