-- The fields behind a line's word: their values, or the first of them with which something is wrong. Fields are counted from 1.
use Rattle.std.specs.Prelude.{◌≡◌, ℕ, ◌+◌, Bool, List, [], ◌∷◌, map, Result, Ok, Err, if◌then◌else◌}
use Rattle.dn_io.specs.declared.cause.Cause.{Cause}
use Rattle.dn_io.specs.declared.cause.Cause.TheVariants.{Fields}
use Rattle.dn_script.specs.declared.flaw.Flaw.{Flaw}
use Rattle.dn_script.specs.declared.flaw.LineFault.{LineFault}
use Rattle.dn_script.specs.declared.flaw.LineFault.TheVariants.{Bad, NoMemory}
use Rattle.dn_script.specs.Judged.{Judged, judge, cause_at}

pub record Row (A : Type 0) : Type 1 where
  pub spell : A → List (List ℕ)
  pub read : ℕ → List (List ℕ) → Result A Cause

infixl 10 ◌>>=◌
abbrev pub ◌>>=◌ : {A B : Type 0} → Result A Cause → (A → Result B Cause) → Result B Cause
(Ok x) >>= f = f x
(Err cause) >>= f = Err cause

abbrev pub in_field : {A : Type 0} → ℕ → Result A Flaw → Result A Cause
in_field n (Ok x) = Ok x
in_field n (Err flaw) = Err (cause_at n flaw)

-- the value of field n, which is the first of these, and the fields behind it
abbrev pub take_judged : {A : Type 0} → Judged A → ℕ → List (List ℕ) → Result (A × List (List ℕ)) Cause
take_judged f n [] = Err Fields
take_judged f n (text ∷ fields) = in_field n (judge f text) >>= λ x. Ok (x, fields)

abbrev pub no_more : List (List ℕ) → Result (Unit {0}) Cause
no_more [] = Ok tt
no_more (text ∷ fields) = Err Fields

abbrev pub one : {A : Type 0} → Judged A → Row A
one f = record {
  spell = λ x. f.spell x ∷ [];
  read = λ n fields. take_judged f n fields >>= λ x. no_more x.1 >>= λ y. Ok x.0;
}

infixr 6 ◌▹◌
abbrev pub ◌▹◌ : {A B : Type 0} → Judged A → Row B → Row (A × B)
f ▹ p = record {
  spell = λ x. f.spell x.0 ∷ p.spell x.1;
  read = λ n fields. take_judged f n fields >>= λ x. p.read (n + 1) x.1 >>= λ y. Ok (x.0, y);
}

-- all fields from field n on
unfoldable pub read_every : {A : Type 0} → Judged A → ℕ → List (List ℕ) → Result (List A) Cause
read_every f n [] = Ok []
read_every f n (text ∷ fields) = in_field n (judge f text) >>= λ x. read_every f (n + 1) fields >>= λ xs. Ok (x ∷ xs)

abbrev pub every : {A : Type 0} → Judged A → Row (List A)
every f = record { spell = λ xs. map f.spell xs; read = read_every f }

-- what was read, as another value
abbrev pub made : {A B : Type 0} → (A → B) → Result A Cause → Result B Cause
made to (Ok x) = Ok (to x)
made to (Err cause) = Err cause

-- the row, where the number of fields is right
abbrev pub counted : {A : Type 0} → Bool → Row A → List (List ℕ) → Result A Cause
counted right row fields = if right then row.read 1 fields else Err Fields

-- What a call answered, seen by view, is what reading gives, unless memory ran out.
abbrev pub Tells : {X Y : Type 0} → (X → Y) → Result X LineFault → Result Y Cause → Type 0
Tells view (Ok x) read = read ≡ Ok (view x)
Tells view (Err (Bad cause)) read = read ≡ Err cause
Tells view (Err NoMemory) read = Unit {0}

-- the same of a call that takes fields from a line: where it answers a value, those behind it are left
abbrev pub Takes : {X Y : Type 0} → (X → Y) → Result X LineFault → List (List ℕ) → Result (Y × List (List ℕ)) Cause → Type 0
Takes view (Ok x) left read = read ≡ Ok (view x, left)
Takes view (Err (Bad cause)) left read = read ≡ Err cause
Takes view (Err NoMemory) left read = Unit {0}
