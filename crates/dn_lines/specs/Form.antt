-- The form of a line: which fields stand in it, one after the other.
use Rattle.std.specs.Prelude.{◌≡◌, ℕ, ◌==◌, Bool, true, List, [], ◌∷◌, map, Option, Some, None, if◌then◌else◌}
use Rattle.std.specs.List.{AllByRecursion, join_with_byte, slice_split}
use Rattle.std.specs.Str.{bytes_eq}
use Rattle.dn_lines.specs.Field.{Field, ◌>>=◌, made}

pub record Form (A : Type 0) : Type 1 where
  pub spell : A → List (List ℕ)
  pub read : List (List ℕ) → Option A
  pub Fits : A → Type 0

-- the value of the first field, and the fields behind it
abbrev pub take_field : {A : Type 0} → Field A → List (List ℕ) → Option (A × List (List ℕ))
take_field f [] = None
take_field f (text ∷ fields) = f.read text >>= λ x. Some (x, fields)

-- no field is left
abbrev pub at_end : List (List ℕ) → Option (Unit {0})
at_end [] = Some tt
at_end (text ∷ fields) = None

-- no field
abbrev pub nothing : Form (Unit {0})
nothing = record { spell = λ x. []; read = at_end; Fits = λ x. Unit {0} }

-- one field and no more
abbrev pub last : {A : Type 0} → Field A → Form A
last f = record {
  spell = λ x. f.spell x ∷ [];
  read = λ fields. take_field f fields >>= λ x. at_end x.1 >>= λ y. Some x.0;
  Fits = f.Fits;
}

-- one field, and then the rest
infixr 6 ◌▸◌
abbrev pub ◌▸◌ : {A B : Type 0} → Field A → Form B → Form (A × B)
f ▸ p = record {
  spell = λ x. f.spell x.0 ∷ p.spell x.1;
  read = λ fields. take_field f fields >>= λ x. p.read x.1 >>= λ y. Some (x.0, y);
  Fits = λ x. f.Fits x.0 × p.Fits x.1;
}

-- the values of all fields
unfoldable pub read_each : {A : Type 0} → (List ℕ → Option A) → List (List ℕ) → Option (List A)
read_each read [] = Some []
read_each read (text ∷ fields) = read text >>= λ x. read_each read fields >>= λ xs. Some (x ∷ xs)

-- any number of fields of one kind
abbrev pub each : {A : Type 0} → Field A → Form (List A)
each f = record {
  spell = λ xs. map f.spell xs;
  read = read_each f.read;
  Fits = λ xs. AllByRecursion f.Fits xs;
}

-- what a test lets through
abbrev pub tested : {A : Type 0} → (A → Bool) → A → Option A
tested test x = if test x then Some x else None

-- the values of a form that pass a test
abbrev pub only : {A : Type 0} → (A → Bool) → Form A → Form A
only test p = record {
  spell = p.spell;
  read = λ fields. p.read fields >>= tested test;
  Fits = λ x. p.Fits x × (test x ≡ true);
}

-- a form seen as another type
abbrev pub shaped : {A B : Type 0} → (A → B) → (B → A) → Form A → Form B
shaped to back p = record {
  spell = λ b. p.spell (back b);
  read = λ fields. made to (p.read fields);
  Fits = λ b. p.Fits (back b);
}

-- a line in its strict form: its fields with one blank between them
abbrev pub spaced : List (List ℕ) → List ℕ
spaced fields = join_with_byte 32 fields

-- the fields of such a line
abbrev pub fields_in : List ℕ → List (List ℕ)
fields_in line = slice_split (λ b. b == 32) line

-- A kind of line: the word that it begins with, and what is read from the fields behind it.
pub record Kind (B : Type 0) : Type 0 where
  pub word : List ℕ
  pub read : List (List ℕ) → Option B

-- the line of the kind whose word it is, or what else it may be
abbrev pub of_kind : {B : Type 0} → List (Kind B) → (List ℕ → List (List ℕ) → Option B) → List ℕ → List (List ℕ) → Option B
of_kind [] other word fields = other word fields
of_kind (k ∷ kinds) other word fields = if bytes_eq word k.word then k.read fields else of_kind kinds other word fields

-- nothing else
abbrev pub no_other : {B : Type 0} → List ℕ → List (List ℕ) → Option B
no_other word fields = None
