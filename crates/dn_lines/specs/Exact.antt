-- The law of fields and of forms: what is read is spelled so, what is spelled so is read, and no field has a blank in it.
use Rattle.std.specs.Prelude.{◌≡◌, ℕ, ◌==◌, false, List, Some}
use Rattle.std.specs.List.{All, AllByRecursion}
use Rattle.dn_lines.specs.Field.{Field}
use Rattle.dn_lines.specs.Form.{Form}

-- the byte doesn't stand in the text
abbrev pub IsFree : ℕ → List ℕ → Type 0
IsFree c text = All (λ b. (b == c) ≡ false) text

pub record IsExact {A : Type 0} (f : Field A) : Type 0 where
  pub finds : (text : List ℕ) (x : A) → f.read text ≡ Some x → (text ≡ f.spell x) × f.Fits x
  pub knows : (x : A) → f.Fits x → f.read (f.spell x) ≡ Some x
  pub free : (x : A) → f.Fits x → IsFree 32 (f.spell x)

pub record IsExactForm {A : Type 0} (p : Form A) : Type 0 where
  pub finds : (fields : List (List ℕ)) (x : A) → p.read fields ≡ Some x → (fields ≡ p.spell x) × p.Fits x
  pub knows : (x : A) → p.Fits x → p.read (p.spell x) ≡ Some x
  pub free : (x : A) → p.Fits x → AllByRecursion (IsFree 32) (p.spell x)
