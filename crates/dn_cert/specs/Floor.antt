-- The participation floor: where too few clients take part, the servers certify their number and give no output.
use Rattle.std.specs.Prelude.{ℕ, ◌*◌, ◌==◌, ◌&&◌, nat_lt, Bool}

-- Whether a round is due to be thin in a group of this version, where so many clients count in it, and so many did in the round of its prev:
-- in version 2, where 100 times the first number is below 95 times the second.
abbrev pub is_due_thin : ℕ → ℕ → ℕ → Bool
is_due_thin version count last = version == 2 && nat_lt (100 * count) (95 * last)
