-- A reader or a writer of the outside.
use Rattle.std.specs.Prelude.{ℕ}

-- the reader or writer, and how often it failed
pub record Edge (X : Type 0) : Type 0 where
  pub inner : X
  pub faults : ℕ
