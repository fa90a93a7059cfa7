-- A field of a line: how a value is spelled in it, what is read from it, and which values have a spelling.
use Rattle.std.specs.Prelude.{◌≡◌, ℕ, ◌==◌, List, [], ◌∷◌, ◌++◌, if◌then◌else◌, Option, Some, None, Result, Ok, Err}
use Rattle.dn_lines.specs.declared.fault.LineFault.{LineFault}
use Rattle.dn_lines.specs.declared.fault.LineFault.TheVariants.{Grammar, NoMemory}

pub record Field (A : Type 0) : Type 1 where
  pub spell : A → List ℕ
  pub read : List ℕ → Option A
  pub Fits : A → Type 0

infixl 10 ◌>>=◌
abbrev pub ◌>>=◌ : {A B : Type 0} → Option A → (A → Option B) → Option B
(Some x) >>= f = f x
None >>= f = None

-- what was read, as another value
abbrev pub made : {A B : Type 0} → (A → B) → Option A → Option B
made to (Some x) = Some (to x)
made to None = None

-- a field seen as another type
abbrev pub seen : {A B : Type 0} → (A → B) → (B → A) → Field A → Field B
seen to back f = record {
  spell = λ b. f.spell (back b);
  read = λ text. made to (f.read text);
  Fits = λ b. f.Fits (back b);
}

-- two parts, with one more byte in front of the first
abbrev pub longer : ℕ → List ℕ × List ℕ → List ℕ × List ℕ
longer b parts = (b ∷ parts.0, parts.1)

-- what stands before the first byte c, and what behind it
unfoldable pub cut : ℕ → List ℕ → Option (List ℕ × List ℕ)
cut c [] = None
cut c (b ∷ text) = if b == c then Some ([], text) else made (longer b) (cut c text)

-- two fields in one, with a byte between them
abbrev pub beside : {A B : Type 0} → ℕ → Field A → Field B → Field (A × B)
beside c f g = record {
  spell = λ x. f.spell x.0 ++ c ∷ g.spell x.1;
  read = λ text. cut c text >>= λ parts. f.read parts.0 >>= λ x. g.read parts.1 >>= λ y. Some (x, y);
  Fits = λ x. f.Fits x.0 × g.Fits x.1;
}

-- What a call answered, seen by view, is what reading gives, unless memory ran out.
abbrev pub Gives : {X Y : Type 0} → (X → Y) → Result X LineFault → Option Y → Type 0
Gives view (Ok x) read = read ≡ Some (view x)
Gives view (Err Grammar) read = read ≡ None
Gives view (Err NoMemory) read = Unit {0}

-- the same of a call that takes fields from a line: where it answers a value, those behind it are left
abbrev pub Reads : {X Y : Type 0} → (X → Y) → Result X LineFault → List (List ℕ) → Option (Y × List (List ℕ)) → Type 0
Reads view (Ok x) left read = read ≡ Some (view x, left)
Reads view (Err Grammar) left read = read ≡ None
Reads view (Err NoMemory) left read = Unit {0}
