-- Numbers, and the one spelling of each.
use Rattle.std.proofs.Common.{◌≡◌, ℕ, ◌^◌, ◌<◌, ◌≤◌, Bool, false, List, Some, None, refl, ap, ◌∙◌, ⊎_elim, arith}
use Rattle.std.specs.Prelude.{nat_le, ◌&&◌}
use Rattle.std.specs.Fmt.{decimal}
use Rattle.std.specs.Str.{bytes_eq}
use Rattle.std.specs.Str.Parse.{AllDigits, digits_value}
use Rattle.std.proofs.lemmas.Bool.{false_from_ne_true, and_parts, leb-true, le-leb, cond-false, cases_eq}
use Rattle.std.proofs.lemmas.Slice.Eq.{bytes_eq-Decides}
use Rattle.std.proofs.lemmas.Str.Parse.{IsNumeralModel, numerals_by_value, tells_digits}
use Rattle.std.proofs.lemmas.Fmt.{digits_value-decimal, decimal_nonempty, first_decimal, decimal_digit}
use Rattle.dn_lines.specs.Fields.{number_in, IsProper}

pub own : IsNumeralModel (AllDigits 10) (digits_value 10)
own = numerals_by_value (AllDigits 10) tells_digits

pub proper_decimal : (v : ℕ) → v < 2 ^ 64 → IsProper (decimal v)
proper_decimal v h = record {
  some = decimal_nonempty v h;
  no_zero = λ e. ⊎_elim
      (λ (z : v ≡ 0). rw (z, decimal_digit 0 (omega arith)) refl)
      (λ (ne : v ≡ 0 → ⊥). absurd (omega (arith, first_decimal v (omega arith) h, e)))
      (cases_eq v 0);
}

pub number_none : (low high : ℕ) (ds : List ℕ) → high < 2 ^ 64
    → ((v : ℕ) → v < 2 ^ 64 → low ≤ v → v ≤ high → ds ≡ decimal v → ⊥) → number_in low high ds ≡ None
number_none low high ds small never =
    let v = digits_value 10 ds in
    let test : Bool = bytes_eq ds (decimal v) && (nat_le low v && nat_le v high) in
    let fails : test ≡ false = false_from_ne_true test (λ yes.
    let parts = and_parts (bytes_eq ds (decimal v)) (nat_le low v && nat_le v high) yes in
    let bounds = and_parts (nat_le low v) (nat_le v high) parts.1 in
    let above : low ≤ v = leb-true low v bounds.0 in
    let below : v ≤ high = leb-true v high bounds.1 in
    never v (omega arith) above below ((bytes_eq-Decides ds (decimal v)).0 parts.0)) in
    cond-false test (Some v) None fails

pub number_some : (low high v : ℕ) (ds : List ℕ) → v < 2 ^ 64 → low ≤ v → v ≤ high → ds ≡ decimal v → number_in low high ds ≡ Some v
number_some low high v ds small above below e =
    let value : digits_value 10 ds ≡ v = ap (digits_value 10) e ∙ digits_value-decimal own v small in
    rw (value, (bytes_eq-Decides ds (decimal v)).1 e, le-leb low v above, le-leb v high below) refl
