-- Bytes in hex, and the one spelling of each.
use Rattle.std.proofs.Common.{◌≡◌, ℕ, zero, suc, ◌+◌, ◌*◌, ◌/◌, ◌%◌, ◌<◌, ◌≤◌, ◌==◌, Bool, true, false, ◌&&◌, inl, inr, List, [], ◌∷◌, ◌++◌, length, take, get_or, slice_index, Option, Some, None, Result, Ok, Err, refl, sym, ap, subst, ◌∙◌, arith, append_assoc}
use Rattle.std.specs.Prelude.{nat_le, not, IsTrue, ◌↔◌}
use Rattle.std.specs.List.{All}
use Rattle.std.specs.Result.{result_ok, result_unwrap_or}
use Rattle.std.specs.Str.{bytes_eq}
use Rattle.std.proofs.lemmas.Bool.{and_parts, eqb-true, cases_lt, false_from_ne_true, cond-false, cond-true}
use Rattle.std.proofs.lemmas.List.{take_more}
use Rattle.std.proofs.lemmas.List.Elements.{All-cons, All-head, All-more, All-nil, All-pop, All-tail}
use Rattle.std.proofs.lemmas.Slice.Eq.{bytes_eq-Decides}
use Rattle.hex.specs.Hex.{decode_of, decode_pairs, digit_or_error, hex_digit_value, encode_lower, encode_with, lower_digits, pair_value, value_at, ◌>>=◌}
use Rattle.hex.specs.declared.error.FromHexError.{FromHexError}
use Rattle.hex.proofs.HexLemmas.{IsDigits-lower_digits, length-encode_with, decode_of-ok, decode_of-even}
use Rattle.dn_lines.specs.Field as fields
use Rattle.dn_lines.specs.Fields.{IsLower, hex_text, if_spelled, bytes_in}

bind_ok : {A B : Type 0} (r : Result A FromHexError) (f : A → Result B FromHexError) (y : B)
    → (r >>= f) ≡ Ok y → (x : A) × (r ≡ Ok x) × (f x ≡ Ok y)
bind_ok (Ok x) f y h = (x, refl, h)
bind_ok (Err e) f y h = cc h

digit_read : (c i : ℕ) (o : Option ℕ) (v : ℕ) → digit_or_error c i o ≡ Ok v → o ≡ Some v
digit_read c i (Some w) v h = ap Some (ap (λ (r : Result ℕ FromHexError). result_unwrap_or r 0) h)
digit_read c i None v h = cc h

small_value : (c v : ℕ) → hex_digit_value c ≡ Some v → v < 16
small_value c v h = grind (arith)

-- the places of the digits and of the lower-case letters
low_place : (c v : ℕ) → IsLower c → hex_digit_value c ≡ Some v → v < 10 → c ≡ v + 48
low_place c v lower h small = grind (arith, lower)

high_place : (c v : ℕ) → IsLower c → hex_digit_value c ≡ Some v → 10 ≤ v → c ≡ v + 87
high_place c v lower h large = grind (arith, lower)

-- two digits with one value, neither of them an upper-case letter
same_digit : (c d v : ℕ) → IsLower c → IsLower d → hex_digit_value c ≡ Some v → hex_digit_value d ≡ Some v → c ≡ d
same_digit c d v lc ld hc hd =
    elim (cases_lt v 10) [
      | inl small ↦ low_place c v lc hc small ∙ sym (low_place d v ld hd small)
      | inr large ↦ high_place c v lc hc large ∙ sym (high_place d v ld hd large)
    ]

-- ---- no digit of the table is an upper-case letter

abbrev is_lower : ℕ → Bool
is_lower c = not (nat_le 65 c && nat_le c 70)

abbrev all_lower : List ℕ → Bool
all_lower [] = true
all_lower (c ∷ cs) = is_lower c && all_lower cs

lower_from_test : (c : ℕ) → is_lower c ≡ true → IsLower c
lower_from_test c h le ge = grind (arith)

lower_at : (cs : List ℕ) (i : ℕ) → all_lower cs ≡ true → IsLower (slice_index cs i)
lower_at [] i h = λ le. absurd (omega arith)
lower_at (c ∷ cs) zero h = lower_from_test c (and_parts (is_lower c) (all_lower cs) h).0
lower_at (c ∷ cs) (suc i) h = lower_at cs i (and_parts (is_lower c) (all_lower cs) h).1

table_lower : (i : ℕ) → IsLower (slice_index lower_digits i)
table_lower i = lower_at lower_digits i refl

-- the digit of a value that a lower-case digit has
own_digit : (c v : ℕ) → IsLower c → hex_digit_value c ≡ Some v → slice_index lower_digits v ≡ c
own_digit c v lower h =
    sym (same_digit c (slice_index lower_digits v) v lower (table_lower v) h (IsDigits-lower_digits v (small_value c v h)))

-- ---- what is read from digits without upper-case letters is spelled so

spelled_pairs : (i : ℕ) (s bytes : List ℕ) → All IsLower s → decode_pairs i s ≡ Ok bytes → encode_lower bytes ≡ s
unfolding decode_pairs encode_with
spelled_pairs i [] bytes lower h =
    let e : [] ≡ bytes = ap (λ (r : Result (List ℕ) FromHexError). result_unwrap_or r []) h in
    rw (← e) refl
spelled_pairs i (a ∷ []) bytes lower h = cc h
spelled_pairs i (a ∷ b ∷ rest) bytes lower h =
    let p0 = bind_ok (pair_value a b i) _ bytes h in
    let p1 = bind_ok (value_at a i) _ p0.0 p0.1 in
    let p2 = bind_ok (value_at b (i + 1)) _ p0.0 p1.2 in
    let p3 = bind_ok (decode_pairs (i + 2) rest) _ bytes p0.2 in
    let behind = All-tail IsLower a (b ∷ rest) lower in
    let ih = spelled_pairs (i + 2) rest p3.0 (All-tail IsLower b rest behind) p3.1 in
    let e : p0.0 ∷ p3.0 ≡ bytes = ap (λ (r : Result (List ℕ) FromHexError). result_unwrap_or r []) p3.2 in
    let ra = digit_read a i (hex_digit_value a) p1.0 p1.1 in
    let rb = digit_read b (i + 1) (hex_digit_value b) p2.0 p2.1 in
    let va = small_value a p1.0 ra in
    let vb = small_value b p2.0 rb in
    let byte : p1.0 * 16 + p2.0 ≡ p0.0 = ap (λ (r : Result ℕ FromHexError). result_unwrap_or r 0) p2.2 in
    let high : p0.0 / 16 ≡ p1.0 = omega arith in
    let low : p0.0 % 16 ≡ p2.0 = omega arith in
    let da : slice_index lower_digits (p0.0 / 16) ≡ a = rw high (own_digit a p1.0 (All-head IsLower a (b ∷ rest) lower) ra) in
    let db : slice_index lower_digits (p0.0 % 16) ≡ b = rw low (own_digit b p2.0 (All-head IsLower b rest behind) rb) in
    let whole : slice_index lower_digits (p0.0 / 16) ∷ slice_index lower_digits (p0.0 % 16) ∷ encode_with lower_digits p3.0 ≡ a ∷ b ∷ rest = rw (da, db, ih) refl in
    rw (← e) whole

pub encoded_lower : (bytes : List ℕ) → All IsLower (encode_lower bytes)
unfolding encode_with
encoded_lower [] = All-nil IsLower
encoded_lower (b ∷ bytes) =
    All-cons IsLower (slice_index lower_digits (b / 16)) (slice_index lower_digits (b % 16) ∷ encode_with lower_digits bytes) (table_lower (b / 16))
    (All-cons IsLower (slice_index lower_digits (b % 16)) (encode_with lower_digits bytes) (table_lower (b % 16)) (encoded_lower bytes))

pub spelled_of : (s bytes : List ℕ) → All IsLower s → decode_of s ≡ Ok bytes → encode_lower bytes ≡ s
spelled_of s bytes lower h =
    let even = (decode_of-ok s bytes h).0 in
    spelled_pairs 0 s bytes lower (sym (decode_of-even s even) ∙ h)

-- a text that is none of `-`, the empty text and a text with an upper-case letter is what its bytes are spelled as
pub hex_is_lower : (bytes : List ℕ) → All IsLower (hex_text bytes)
hex_is_lower [] = All-cons IsLower 45 [] (λ le. absurd (omega arith)) (All-nil IsLower)
hex_is_lower (b ∷ bytes) = encoded_lower (b ∷ bytes)

pub spelled_hex : (s bytes : List ℕ) → (s ≡ [] → ⊥) → All IsLower s → decode_of s ≡ Ok bytes → hex_text bytes ≡ s
unfolding encode_with
spelled_hex s [] some lower h = absurd (some (sym (spelled_of s [] lower h)))
spelled_hex s (b ∷ bytes) some lower h = spelled_of s (b ∷ bytes) lower h

-- ---- one more byte

encode_append : (t xs ys : List ℕ) → encode_with t (xs ++ ys) ≡ encode_with t xs ++ encode_with t ys
unfolding encode_with
encode_append t [] ys = refl
encode_append t (x ∷ xs) ys = ap (λ (r : List ℕ). slice_index t (x / 16) ∷ slice_index t (x % 16) ∷ r) (encode_append t xs ys)

pub encode_more : (bytes front out : List ℕ) (i : ℕ) → i < length bytes → out ≡ front ++ encode_lower (take i bytes)
    → (out ++ slice_index lower_digits (get_or bytes i 0 / 16) ∷ []) ++ slice_index lower_digits (get_or bytes i 0 % 16) ∷ [] ≡ front ++ encode_lower (take (i + 1) bytes)
unfolding encode_with
encode_more bytes front out i lt so_far =
    rw (so_far, take_more bytes i 0 lt, encode_append lower_digits (take i bytes) (get_or bytes i 0 ∷ [])) (simp append_assoc)

-- ---- what reading gives

pub if_spelled_not : (s bytes : List ℕ) → (s ≡ hex_text bytes → ⊥) → if_spelled s bytes ≡ None
if_spelled_not s bytes never =
    cond-false (bytes_eq s (hex_text bytes)) (Some bytes) None
    (false_from_ne_true (bytes_eq s (hex_text bytes)) (λ same. never ((bytes_eq-Decides s (hex_text bytes)).0 same)))

pub if_spelled_is : (s bytes : List ℕ) → s ≡ hex_text bytes → if_spelled s bytes ≡ Some bytes
if_spelled_is s bytes same = cond-true (bytes_eq s (hex_text bytes)) (Some bytes) None ((bytes_eq-Decides s (hex_text bytes)).1 same)

abbrev bound : {A B : Type 0} → Option A → (A → Option B) → Option B
bound o f = fields.◌>>=◌ o f

decoded_not : {E : Type 0} (s : List ℕ) (d : Result (List ℕ) E) → ((bytes : List ℕ) → s ≡ hex_text bytes → ⊥) → bound (result_ok d) (if_spelled s) ≡ None
decoded_not s (Ok bytes) never = if_spelled_not s bytes (never bytes)
decoded_not s (Err e) never = refl

pub not_bytes : (s : List ℕ) → ((bytes : List ℕ) → s ≡ hex_text bytes → ⊥) → bytes_in s ≡ None
unfolding bytes_in
not_bytes s never =
    let other : bytes_eq s (45 ∷ []) ≡ false = false_from_ne_true (bytes_eq s (45 ∷ [])) (λ same. never [] ((bytes_eq-Decides s (45 ∷ [])).0 same)) in
    rw other (decoded_not s (decode_of s) never)

some_text : (bytes : List ℕ) → [] ≡ hex_text bytes → ⊥
some_text [] e = absurd (omega (arith, ap length e))
some_text (b ∷ bytes) e = absurd (omega (arith, ap length e, length-encode_with lower_digits (b ∷ bytes)))

pub nothing_is_no_bytes : bytes_in [] ≡ None
nothing_is_no_bytes = not_bytes [] some_text

pub upper_is_no_bytes : (s : List ℕ) → (All IsLower s → ⊥) → bytes_in s ≡ None
upper_is_no_bytes s upper = not_bytes s (λ bytes e. upper (subst (All IsLower) (sym e) (hex_is_lower bytes)))

pub digits_are_bytes : (s bytes : List ℕ) → bytes_eq s (45 ∷ []) ≡ false → (s ≡ [] → ⊥) → All IsLower s → decode_of s ≡ Ok bytes → bytes_in s ≡ Some bytes
unfolding bytes_in
digits_are_bytes s bytes other some lower h =
    rw (other, h) (if_spelled_is s bytes (sym (spelled_hex s bytes some lower h)))

pub empty_text : (s : List ℕ) → (length s == 0) ≡ true → s ≡ []
empty_text [] h = refl
empty_text (b ∷ s) h = absurd (omega (arith, eqb-true (length (b ∷ s)) 0 h))

-- ---- one more character that is no upper-case letter, or is one

pub lower_more : (text : List ℕ) (i : ℕ) (old one : Bool) → i < length text → IsTrue old ↔ All IsLower (take i text) → IsTrue one ↔ IsLower (get_or text i 0)
    → IsTrue (old && one) ↔ All IsLower (take (i + 1) text)
lower_more text i old one lt so_far here = (
  λ h.
      let parts = and_parts old one h in
      All-more IsLower text i 0 lt (so_far.0 parts.0) (here.0 parts.1),
  λ all.
      let parts = All-pop IsLower (take (i + 1) text) (take i text) (Some (get_or text i 0)) (take_more text i 0 lt) all in
      rw (so_far.1 parts.0, here.1 parts.1) refl,
)
