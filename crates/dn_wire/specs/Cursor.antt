-- Where a reader stands: a place, and the bytes from there on.
use Rattle.std.specs.Prelude.{ℕ, ◌+◌, List, drop}

pub record Cursor : Type 0 where
  pub at : ℕ
  pub rest : List ℕ

-- at the first of all bytes
abbrev pub start : List ℕ → Cursor
start bytes = record { at = 0; rest = bytes }

-- n bytes further
abbrev pub past : Cursor → ℕ → Cursor
past c n = record { at = c.at + n; rest = drop n c.rest }
