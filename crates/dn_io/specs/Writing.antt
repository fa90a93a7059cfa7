-- Writing bytes whole, and piece by piece.
use Rattle.std.specs.Prelude.{◌≡◌, ℕ, ◌≤◌, List, ◌++◌, Result, Ok, Err}
use Rattle.std.specs.declared.option.Option.{Option}
use Rattle.std.specs.Io.KnownBytes.{Appends}
use Rattle.dn_io.specs.declared.writing.WriteEnd.{WriteEnd}
use Rattle.dn_io.specs.declared.writing.WriteEnd.TheVariants.{WriteFault, NoMemory}
use Rattle.dn_io.specs.Faults.{Rose}

-- the count of a sink never falls, and rises at a write fault
abbrev pub CountsWrite : {T : Type 0} → ℕ → ℕ → Result T WriteEnd → Type 0
CountsWrite before now (Ok x) = before ≤ now
CountsWrite before now (Err WriteFault) = (before ≤ now) × Rose before now
CountsWrite before now (Err NoMemory) = before ≤ now

-- known bytes grew by the text, but for the rest at its end
abbrev pub AppendsAllBut : Option (List ℕ) → Option (List ℕ) → List ℕ → List ℕ → Type 0
AppendsAllBut old new text rest = (front : List ℕ) × Appends old new front × (text ≡ front ++ rest)
