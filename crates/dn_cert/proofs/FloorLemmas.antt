-- What a test of the floor tells.
use Rattle.std.proofs.Common.{◌≡◌, ◌≢◌, Bool, true, false, refl}
use mathlib.Core.Bool.{not, beq}

pub flags_same : (a b : Bool) → not (beq a b) ≡ false → a ≡ b
flags_same true true e = refl
flags_same true false e = absurd cc
flags_same false true e = absurd cc
flags_same false false e = refl

pub flags_apart : (a b : Bool) → not (beq a b) ≡ true → a ≢ b
flags_apart true true e = absurd cc
flags_apart true false e = λ same. absurd cc
flags_apart false true e = λ same. absurd cc
flags_apart false false e = absurd cc
