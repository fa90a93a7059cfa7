-- Pairs of lower-case digits, one more of them looked at.
use Rattle.std.proofs.Common.{◌≡◌, ℕ, ◌+◌, ◌*◌, ◌%◌, ◌<◌, true, false, max, List, [], ◌∷◌, length, take, get_or, Some, None, Result, Ok, Err, refl, sym, ap, subst, arith}
use Rattle.std.specs.Prelude.{◌↔◌}
use Rattle.std.specs.List.{All, AllPass}
use Rattle.std.specs.Result.{result_ok}
use Rattle.std.specs.Str.{bytes_eq}
use Rattle.std.proofs.lemmas.List.{take_more}
use Rattle.std.proofs.lemmas.List.Elements.{All-more, All-pop}
use Rattle.hex.specs.Hex.{decode_of, hex_digit_value, is_hex_digit, pair_value}
use Rattle.hex.proofs.HexLemmas.{decode_of-ok, decode_of-odd}
use Rattle.dn_lines.specs.Field as fields
use Rattle.dn_lines.specs.Fields.{IsLower, hex_text, if_spelled, bytes_in}
use Rattle.dn_lines.specs.Digits.{lower_value, IsLowerDigit}
use Rattle.dn_lines.proofs.HexLaws.{hex_is_lower, if_spelled_not}

-- a lower-case digit is a digit, and no upper-case letter
pub digit_value : (c : ℕ) → lower_value c < 16 → hex_digit_value c ≡ Some (lower_value c)
digit_value c h = grind (arith)

pub digit_is_lower : (c : ℕ) → IsLowerDigit c → IsLower c
digit_is_lower c h le ge = grind (arith)

pub lower_is_digit : (c : ℕ) → IsLower c → is_hex_digit c ≡ true → IsLowerDigit c
lower_is_digit c lower h = grind (arith, lower)

pub pair_read : (a b i : ℕ) → lower_value a < 16 → lower_value b < 16 → pair_value a b i ≡ Ok (lower_value a % 16 * 16 + lower_value b % 16)
pair_read a b i ha hb = rw (digit_value a ha, digit_value b hb) (ap Ok (omega arith))

-- one more pair
pub pair_more : (s : List ℕ) (i old a b : ℕ) → 2 * i + 1 < length s → (old < 16) ↔ All IsLowerDigit (take (2 * i) s)
    → a ≡ lower_value (get_or s (2 * i) 0) → b ≡ lower_value (get_or s (2 * i + 1) 0)
    → (max (max old a) b < 16) ↔ All IsLowerDigit (take (2 * (i + 1)) s)
pair_more s i old a b fits so_far ea eb =
    let two : 2 * (i + 1) ≡ 2 * i + 1 + 1 = omega arith in
    rw two (
      λ h.
          let ho : old < 16 = omega arith in
          let ha : lower_value (get_or s (2 * i) 0) < 16 = omega arith in
          let hb : lower_value (get_or s (2 * i + 1) 0) < 16 = omega arith in
          All-more IsLowerDigit s (2 * i + 1) 0 fits (All-more IsLowerDigit s (2 * i) 0 (omega arith) (so_far.0 ho) ha) hb,
      λ all.
          let p = All-pop IsLowerDigit (take (2 * i + 1 + 1) s) (take (2 * i + 1) s) (Some (get_or s (2 * i + 1) 0)) (take_more s (2 * i + 1) 0 fits) all in
          let q = All-pop IsLowerDigit (take (2 * i + 1) s) (take (2 * i) s) (Some (get_or s (2 * i) 0)) (take_more s (2 * i) 0 (omega arith)) p.0 in
          let ho : old < 16 = so_far.1 q.0 in
          let ha : lower_value (get_or s (2 * i) 0) < 16 = q.1 in
          let hb : lower_value (get_or s (2 * i + 1) 0) < 16 = p.1 in
          omega arith,
    )

-- ---- texts that are no bytes

all_digits : (s : List ℕ) → All IsLower s → AllPass is_hex_digit s → All IsLowerDigit s
all_digits s lower pass = λ k d lt. lower_is_digit (get_or s k d) (lower k d lt) (pass k d lt)

pub digits_are_lower : (s : List ℕ) → All IsLowerDigit s → All IsLower s
digits_are_lower s all = λ k d lt. digit_is_lower (get_or s k d) (all k d lt)

no_bytes_of : {E : Type 0} (s : List ℕ) (d : Result (List ℕ) E) → ((bytes : List ℕ) → d ≡ Ok bytes → s ≡ hex_text bytes → ⊥)
    → fields.◌>>=◌ (result_ok d) (if_spelled s) ≡ None
no_bytes_of s (Ok bytes) never = if_spelled_not s bytes (never bytes refl)
no_bytes_of s (Err e) never = refl

-- a text that isn't `-` and has another character than lower-case digits
pub others_are_no_bytes : (s : List ℕ) → bytes_eq s (45 ∷ []) ≡ false → (All IsLowerDigit s → ⊥) → bytes_in s ≡ None
unfolding bytes_in
others_are_no_bytes s dash other =
    rw dash (no_bytes_of s (decode_of s) (λ bytes h e.
    other (all_digits s (subst (All IsLower) (sym e) (hex_is_lower bytes)) (decode_of-ok s bytes h).1)))

-- a text of an odd number of characters that isn't `-`
pub odd_is_no_bytes : (s : List ℕ) → bytes_eq s (45 ∷ []) ≡ false → length s % 2 ≡ 1 → bytes_in s ≡ None
unfolding bytes_in
odd_is_no_bytes s dash odd = rw (dash, decode_of-odd s odd) refl
