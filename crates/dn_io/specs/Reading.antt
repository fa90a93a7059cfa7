-- Reading a source to its end, or past a limit.
use Rattle.std.specs.Prelude.{◌≡◌, ℕ, ◌+◌, ◌≤◌, List, ◌++◌, length, Result, Ok, Err}
use Rattle.std.specs.declared.option.Option.{Option}
use Rattle.std.specs.Io.KnownBytes.{Keeps, Consumes, IsAtEnd}
use Rattle.dn_io.specs.declared.reading.ReadEnd.{ReadEnd}
use Rattle.dn_io.specs.declared.reading.ReadEnd.TheVariants.{ReadFault, TooLong, NoMemory}
use Rattle.dn_io.specs.Faults.{Rose}

-- what reading a source to its end, or past a limit, did to its bytes
module _ {T : Type 0} (items : T → List ℕ) (old new : Option (List ℕ)) (limit : ℕ) where
  abbrev pub ReadsWhole : Result T ReadEnd → Type 0
  ReadsWhole (Ok x) = (length (items x) ≤ limit) × Consumes old new (items x) × IsAtEnd new
  ReadsWhole (Err (TooLong n)) = (n ≡ limit) × (bytes : List ℕ) × (length bytes ≡ limit + 1) × Consumes old new bytes
  ReadsWhole (Err ReadFault) = (bytes : List ℕ) × (length bytes ≤ limit) × Consumes old new bytes
  ReadsWhole (Err NoMemory) = (bytes : List ℕ) × (length bytes ≤ limit + 1) × Consumes old new bytes

-- the count of a source never falls, and rises at a read fault
abbrev pub CountsRead : {T : Type 0} → ℕ → ℕ → Result T ReadEnd → Type 0
CountsRead before now (Ok x) = before ≤ now
CountsRead before now (Err ReadFault) = (before ≤ now) × Rose before now
CountsRead before now (Err (TooLong n)) = before ≤ now
CountsRead before now (Err NoMemory) = before ≤ now

-- what reading a piece of at most room bytes appended
abbrev pub ReadsPiece : Option (List ℕ) → Option (List ℕ) → ℕ → Result ℕ ReadEnd → List ℕ → List ℕ → Type 0
ReadsPiece old new room (Ok n) before after =
    (piece : List ℕ) × (after ≡ before ++ piece) × (length piece ≡ n) × (n ≤ room) × Consumes old new piece × (n ≡ 0 → IsAtEnd new)
ReadsPiece old new room (Err (TooLong n)) before after = ⊥
ReadsPiece old new room (Err ReadFault) before after = Keeps old new
ReadsPiece old new room (Err NoMemory) before after = (piece : List ℕ) × (length piece ≤ room) × Consumes old new piece
