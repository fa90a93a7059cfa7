-- Strings by their digests, and whether two of them have one digest.
use Rattle.std.specs.Prelude.{◌≡◌, ◌↔◌, ℕ, Bool, IsTrue, List, Contains}

-- a string with its digest
pub record Hashed : Type 0 where
  pub digest : List ℕ
  pub string : List ℕ

-- no two different ones of these strings have one digest
abbrev pub NoneCollide : List Hashed → Type 0
NoneCollide strings = (x y : Hashed) → Contains strings x → Contains strings y → x.digest ≡ y.digest → x.string ≡ y.string

-- the first string of each digest, and whether all strings so far differ in their digests
pub record StringsView : Type 0 where
  pub first : List Hashed
  pub differ : Bool

-- What is kept tells of these strings: it has one of them for each digest that any of them has, one at most for a digest, and whether some two
-- of them have one digest.
pub record Tells (v : StringsView) (strings : List Hashed) : Type 0 where
  pub among : (x : Hashed) → Contains v.first x → Contains strings x
  pub each : (x : Hashed) → Contains strings x → (y : Hashed) × Contains v.first y × (y.digest ≡ x.digest)
  pub one_each : (x y : Hashed) → Contains v.first x → Contains v.first y → x.digest ≡ y.digest → x.string ≡ y.string
  pub differ : IsTrue v.differ ↔ NoneCollide strings
