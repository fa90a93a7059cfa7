-- Formats are put together from parts. A part says how a value is spelled, how it is read from the
-- left, with the first fault that is met, and which values have a spelling.
use Rattle.std.specs.Prelude.{◌≡◌, ℕ, List, ◌++◌, length, Result, Ok, Err, ◌==◌, if◌then◌else◌}
use Rattle.dn_wire.specs.Cursor.{Cursor}
use Rattle.dn_wire.specs.declared.reader.FieldFault.{FieldFault}
use Rattle.dn_wire.specs.declared.reader.FieldFault.TheVariants as fields
use Rattle.dn_record_types.specs.declared.fault.RecordFault.{RecordFault}
use Rattle.dn_record_types.specs.declared.fault.RecordFault.TheVariants.{Cut, Over, Trailing, NoMemory}

-- a value and where the reader stands behind it, or the first fault
abbrev pub Read : Type 0 → Type 0
Read A = Result (A × Cursor) RecordFault

pub record Part (A : Type 0) : Type 1 where
  pub spell : A → List ℕ
  pub read : Cursor → Read A
  pub Fits : A → Type 0

infixl 10 ◌>>=◌
abbrev pub ◌>>=◌ : {A B : Type 0} → Result A RecordFault → (A → Result B RecordFault) → Result B RecordFault
(Ok x) >>= f = f x
(Err e) >>= f = Err e

-- a field's fault as a record's
abbrev pub fault_of : FieldFault → RecordFault
fault_of (fields.Cut at) = Cut at
fault_of (fields.Over at limit) = Over at limit

abbrev pub field : {A : Type 0} → Result (A × Cursor) FieldFault → Read A
field (Ok x) = Ok x
field (Err f) = Err (fault_of f)

-- one part, and then the other
infixr 6 ◌⋈◌
abbrev pub ◌⋈◌ : {A B : Type 0} → Part A → Part B → Part (A × B)
p ⋈ q = record {
  spell = λ x. p.spell x.0 ++ q.spell x.1;
  read = λ c. p.read c >>= λ x. q.read x.1 >>= λ y. Ok ((x.0, y.0), y.1);
  Fits = λ x. p.Fits x.0 × q.Fits x.1;
}

-- one part, and then one that goes by its value
abbrev pub led_by : {A B : Type 0} → Part A → (A → Part B) → Part (A × B)
led_by p q = record {
  spell = λ x. p.spell x.0 ++ (q x.0).spell x.1;
  read = λ c. p.read c >>= λ x. (q x.0).read x.1 >>= λ y. Ok ((x.0, y.0), y.1);
  Fits = λ x. p.Fits x.0 × (q x.0).Fits x.1;
}

-- what was read, as another value
abbrev pub made : {A B : Type 0} → (A → B) → Read A → Read B
made f read = read >>= λ x. Ok (f x.0, x.1)

-- a part seen as another type
abbrev pub seen : {A B : Type 0} → (A → B) → (B → A) → Part A → Part B
seen to back p = record {
  spell = λ b. p.spell (back b);
  read = λ c. made to (p.read c);
  Fits = λ b. p.Fits (back b);
}

-- all that is left
unfoldable pub whole : {A : Type 0} → Part A → Cursor → Result A RecordFault
whole p c = p.read c >>= λ x. if length x.1.rest == 0 then Ok x.0 else Err (Trailing x.1.at)

-- What a call answered is what reading gives, unless memory ran out.
abbrev pub Fails : {A : Type 0} → RecordFault → Result A RecordFault → Type 0
Fails NoMemory read = Unit {0}
Fails f read = read ≡ Err f

abbrev pub Gives : {A : Type 0} → Result A RecordFault → Result A RecordFault → Type 0
Gives (Ok x) read = read ≡ Ok x
Gives (Err f) read = Fails f read

-- the same of a call that moves a reader: where it answers a value, the reader stands behind it
abbrev pub Reads : {X A : Type 0} → (X → A) → Result X RecordFault → Cursor → Read A → Type 0
Reads view (Ok x) after read = read ≡ Ok (view x, after)
Reads view (Err f) after read = Fails f read
