-- The words of a line, which blanks and tabs stand between, before and behind.
use Rattle.std.specs.Prelude.{ℕ, nat_lt, nat_le, ◌&&◌, ◌==◌, ◌||◌, Bool, List, length}
use Rattle.std.specs.List.{filter, slice_split}

abbrev pub is_gap : ℕ → Bool
is_gap b = b == 32 || b == 9

abbrev pub words_in : List ℕ → List (List ℕ)
words_in line = filter (λ word. nat_lt 0 (length word)) (slice_split is_gap line)

-- so many words, from low to high
abbrev pub has : ℕ → ℕ → List (List ℕ) → Bool
has low high words = nat_le low (length words) && nat_le (length words) high
