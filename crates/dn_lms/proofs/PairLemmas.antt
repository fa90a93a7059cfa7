-- Pieces appended one after another.
use Rattle.std.proofs.Common.{◌≡◌, ℕ, List, [], ◌++◌, refl}

-- four pieces
pub four_pieces : (v u x y z a b c d : List ℕ) → v ≡ [] → u ≡ v ++ a → x ≡ u ++ b → y ≡ x ++ c → z ≡ y ++ d → z ≡ ((a ++ b) ++ c) ++ d
four_pieces v u x y z a b c d ev eu ex ey ez = rw (ez, ey, ex, eu, ev) refl

-- the pieces by what they are
pub same_pieces : (a b c d x y z w : List ℕ) → a ≡ x → b ≡ y → c ≡ z → d ≡ w → ((a ++ b) ++ c) ++ d ≡ ((x ++ y) ++ z) ++ w
same_pieces a b c d x y z w ea eb ec ed = rw (ea, eb, ec, ed) refl
