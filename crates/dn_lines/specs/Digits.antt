-- The lower-case hex digits.
use Rattle.std.specs.Prelude.{ℕ, ◌-◌, ◌<◌, ◌&&◌, nat_le, if◌then◌else◌}

-- the value of a digit from 0 to 9 or a to f, and 16 of any other character
abbrev pub lower_value : ℕ → ℕ
lower_value c =
    if nat_le 48 c && nat_le c 57 then c - 48
    else (if nat_le 97 c && nat_le c 102 then c - 87 else 16)

abbrev pub IsLowerDigit : ℕ → Type 0
IsLowerDigit c = lower_value c < 16
