-- Numerals and their limits.
use Rattle.std.proofs.Common.{◌≡◌, ℕ, ◌<◌, true, List, [], ◌∷◌, length, inl, inr, refl}
use Rattle.std.specs.Prelude.{nat_lt, ◌==◌, ◌||◌, not}
use Rattle.std.specs.Str.{all_ascii_digits}
use Rattle.std.specs.Str.Parse.{AllDigits, digits_value}
use Rattle.std.proofs.lemmas.Bool.{and_parts, cases_Bool, lt-ltb}
use Rattle.std.proofs.lemmas.Str.Parse.{IsNumeralModel, numerals_by_value, tells_all_ascii_digits}
use Rattle.dn_script.specs.Judged.{is_numeral, is_outside}

pub told : IsNumeralModel (λ ds. all_ascii_digits ds ≡ true) (digits_value 10)
told = numerals_by_value (λ ds. all_ascii_digits ds ≡ true) tells_all_ascii_digits

pub numeral_digits : (text : List ℕ) → is_numeral text ≡ true → AllDigits 10 text
numeral_digits [] h = cc
numeral_digits (b ∷ text) h = told.to (b ∷ text) (and_parts (length text == 0 || not (b == 48)) (all_ascii_digits (b ∷ text)) h).1

pub above_high : (low high n : ℕ) → high < n → is_outside low high n ≡ true
above_high low high n over =
    elim (cases_Bool (nat_lt n low)) [
      | inl below ↦ rw below refl
      | inr other ↦ rw (other, lt-ltb high n over) refl
    ]
