-- The bytes of a roster, piece by piece.
use Rattle.std.proofs.Common.{◌≡◌, ℕ, List, ◌++◌, append_assoc}

-- a tag before the pieces, and the tag as the first of them
pub grouped : (t n m o c s k l p x : List ℕ) → t ++ n ++ m ++ o ++ c ++ s ++ k ++ l ++ p ++ x ≡ t ++ (n ++ m ++ o ++ c ++ s ++ k ++ l ++ p ++ x)
grouped t n m o c s k l p x = simp append_assoc
