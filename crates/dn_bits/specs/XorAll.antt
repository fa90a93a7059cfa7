-- The sum of many bits.
use Rattle.std.specs.Prelude.{Bool, false, List, [], ◌∷◌}
use Rattle.dn_bits.specs.Bits.{xor}

-- whether an odd number of the bits is set
abbrev pub xor_all : List Bool → Bool
xor_all [] = false
xor_all (x ∷ xs) = xor x (xor_all xs)
