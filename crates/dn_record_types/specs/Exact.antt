-- The law of a part: what is read is spelled so, and what is spelled so is read.
use Rattle.std.specs.Prelude.{◌≡◌, ℕ, ◌+◌, ◌<◌, List, ◌++◌, length, slice_index, Ok}
use Rattle.dn_wire.specs.Cursor.{Cursor}
use Rattle.dn_record_types.specs.Part.{Read, Part}

-- each number is a byte
abbrev pub IsBytes : List ℕ → Type 0
IsBytes bytes = (i : ℕ) → slice_index bytes i < 256

-- what a reader took from the front
pub record Took (c : Cursor) (text : List ℕ) (d : Cursor) : Type 0 where
  pub parts : c.rest ≡ text ++ d.rest
  pub moved : d.at ≡ c.at + length text
  pub bytes : IsBytes d.rest

-- the cursor at a place, before a text and what follows it
abbrev pub before : ℕ → List ℕ → List ℕ → Cursor
before at text rest = record { at = at; rest = text ++ rest }

abbrev pub behind : ℕ → List ℕ → List ℕ → Cursor
behind at text rest = record { at = at + length text; rest = rest }

abbrev pub Finds : {A : Type 0} → (Cursor → Read A) → (A → List ℕ) → (A → Type 0) → Type 0
Finds {A} read spell Fits = (c : Cursor) (x : A) (d : Cursor) → IsBytes c.rest → read c ≡ Ok (x, d) → Took c (spell x) d × Fits x

abbrev pub Knows : {A : Type 0} → (Cursor → Read A) → (A → List ℕ) → (A → Type 0) → Type 0
Knows {A} read spell Fits = (x : A) (at : ℕ) (rest : List ℕ) → Fits x → read (before at (spell x) rest) ≡ Ok (x, behind at (spell x) rest)

pub record IsExact {A : Type 0} (p : Part A) : Type 0 where
  pub finds : Finds p.read p.spell p.Fits
  pub knows : Knows p.read p.spell p.Fits
