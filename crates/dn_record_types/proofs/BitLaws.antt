-- Bytes whose bits after the last are zeros are the bytes of their bits.
use Rattle.std.proofs.Common.{◌≡◌, ℕ, zero, suc, ◌+◌, ◌-◌, ◌*◌, ◌/◌, ◌%◌, ◌^◌, ◌<◌, ◌≤◌, Bool, true, false, eqb, List, ◌++◌, length, get_or, refl, sym, ap, subst, ◌∙◌, arith, inl, inr, append_assoc, Ok, Err, cond}
use Rattle.std.specs.Int.{bit_at, w32}
use Rattle.std.proofs.lemmas.Bool.{cases_lt, eqb-true, eq-eqb}
use Rattle.std.proofs.lemmas.List.{get_or_past, get_or_append_left, length-append}
use Rattle.std.proofs.lemmas.List.FromFn.{length-map-range_with_len, get_or-map-range_with_len, fill_by_all}
use Rattle.dn_bits.specs.Bits.{bit, bit_number, byte_of, bytes_of, bit_of_bytes, first_bits}
use Rattle.dn_bits.proofs.ByteLemmas.{length-bytes_of, bits_again}
use Rattle.dn_wire.specs.Cursor.{Cursor}
use Rattle.dn_record_types.specs.declared.fault.RecordFault.TheVariants.{Shape}
use Rattle.dn_record_types.specs.Part.{◌>>=◌}
use Rattle.dn_record_types.specs.Fields.{spell_number, read_limited, read_bytes, read_bits, bits, ends_in_zeros}
use Rattle.dn_record_types.proofs.Laws.{IsBytes, bind_ok, passed, Took, Took-then, IsExact}
use Rattle.dn_record_types.proofs.FieldLaws.{up_to_exact, exactly_exact}

-- what was taken from bytes is bytes
front_bytes : (c : Cursor) (text : List ℕ) (d : Cursor) → IsBytes c.rest → Took c text d → IsBytes text
front_bytes c text d h t i =
    elim (cases_lt i (length text)) [
      | inl lt ↦ subst (λ (v : ℕ). v < 256) (ap (λ (l : List ℕ). get_or l i 0) t.parts ∙ get_or_append_left text d.rest 0 i lt) (h i)
      | inr le ↦ subst (λ (v : ℕ). v < 256) (sym (get_or_past text i 0 le)) (omega arith)
    ]

-- ---- the low bits of a multiple of a power are zeros

low_zero : (x s j : ℕ) → s < 8 → j < s → x % 2 ^ s ≡ 0 → bit_at x j ≡ 0
low_zero x (suc zero) zero small lt h = omega arith
low_zero x (suc (suc zero)) zero small lt h = omega arith
low_zero x (suc (suc zero)) (suc zero) small lt h = omega arith
low_zero x (suc (suc (suc zero))) zero small lt h = omega arith
low_zero x (suc (suc (suc zero))) (suc zero) small lt h = omega arith
low_zero x (suc (suc (suc zero))) (suc (suc zero)) small lt h = omega arith
low_zero x (suc (suc (suc (suc zero)))) zero small lt h = omega arith
low_zero x (suc (suc (suc (suc zero)))) (suc zero) small lt h = omega arith
low_zero x (suc (suc (suc (suc zero)))) (suc (suc zero)) small lt h = omega arith
low_zero x (suc (suc (suc (suc zero)))) (suc (suc (suc zero))) small lt h = omega arith
low_zero x (suc (suc (suc (suc (suc zero))))) zero small lt h = omega arith
low_zero x (suc (suc (suc (suc (suc zero))))) (suc zero) small lt h = omega arith
low_zero x (suc (suc (suc (suc (suc zero))))) (suc (suc zero)) small lt h = omega arith
low_zero x (suc (suc (suc (suc (suc zero))))) (suc (suc (suc zero))) small lt h = omega arith
low_zero x (suc (suc (suc (suc (suc zero))))) (suc (suc (suc (suc zero)))) small lt h = omega arith
low_zero x (suc (suc (suc (suc (suc (suc zero)))))) zero small lt h = omega arith
low_zero x (suc (suc (suc (suc (suc (suc zero)))))) (suc zero) small lt h = omega arith
low_zero x (suc (suc (suc (suc (suc (suc zero)))))) (suc (suc zero)) small lt h = omega arith
low_zero x (suc (suc (suc (suc (suc (suc zero)))))) (suc (suc (suc zero))) small lt h = omega arith
low_zero x (suc (suc (suc (suc (suc (suc zero)))))) (suc (suc (suc (suc zero)))) small lt h = omega arith
low_zero x (suc (suc (suc (suc (suc (suc zero)))))) (suc (suc (suc (suc (suc zero))))) small lt h = omega arith
low_zero x (suc (suc (suc (suc (suc (suc (suc zero))))))) zero small lt h = omega arith
low_zero x (suc (suc (suc (suc (suc (suc (suc zero))))))) (suc zero) small lt h = omega arith
low_zero x (suc (suc (suc (suc (suc (suc (suc zero))))))) (suc (suc zero)) small lt h = omega arith
low_zero x (suc (suc (suc (suc (suc (suc (suc zero))))))) (suc (suc (suc zero))) small lt h = omega arith
low_zero x (suc (suc (suc (suc (suc (suc (suc zero))))))) (suc (suc (suc (suc zero)))) small lt h = omega arith
low_zero x (suc (suc (suc (suc (suc (suc (suc zero))))))) (suc (suc (suc (suc (suc zero))))) small lt h = omega arith
low_zero x (suc (suc (suc (suc (suc (suc (suc zero))))))) (suc (suc (suc (suc (suc (suc zero)))))) small lt h = omega arith
low_zero x s j small lt h = absurd (omega arith)

below_two : (x j : ℕ) → bit_at x j < 2
below_two x j = omega arith

as_number : (x : ℕ) → x < 2 → bit_number (eqb x 1) ≡ x
as_number zero lt = refl
as_number (suc zero) lt = refl
as_number (suc (suc x)) lt = absurd (omega arith)

eight : (x : ℕ) → x < 256 → 128 * bit_at x 7 + 64 * bit_at x 6 + 32 * bit_at x 5 + 16 * bit_at x 4 + 8 * bit_at x 3 + 4 * bit_at x 2 + 2 * bit_at x 1 + bit_at x 0 ≡ x
eight x lt = omega arith

pub length-first_bits : (bytes : List ℕ) (n : ℕ) → length (first_bits bytes n) ≡ n
length-first_bits bytes n = length-map-range_with_len (bit_of_bytes bytes) 0 n

module _ (bytes : List ℕ) (n : ℕ) (long : length bytes ≡ (n + 7) / 8) (ends : ends_in_zeros bytes n ≡ true) where
  last_zeros : (m i : ℕ) → m < length bytes → i < 8 → n ≤ 8 * m + i → bit_at (get_or bytes m 0) (7 - i) ≡ 0
  last_zeros m i lt small past =
      let is_last : m ≡ length bytes - 1 = omega arith in
      let zeros : get_or bytes (length bytes - 1) 0 % 2 ^ (8 * length bytes - n) ≡ 0 = eqb-true _ _ ends in
      ap (λ (k : ℕ). bit_at (get_or bytes k 0) (7 - i)) is_last
      ∙ low_zero (get_or bytes (length bytes - 1) 0) (8 * length bytes - n) (7 - i) (omega arith) (omega arith) zeros

  digit : (m i : ℕ) → m < length bytes → i < 8 → bit_number (bit (first_bits bytes n) (8 * m + i)) ≡ bit_at (get_or bytes m 0) (7 - i)
  digit m i lt small =
      elim (cases_lt (8 * m + i) n) [
        | inl within ↦
            let place : bit (first_bits bytes n) (8 * m + i) ≡ bit_of_bytes bytes (8 * m + i) = get_or-map-range_with_len (bit_of_bytes bytes) 0 n (8 * m + i) (8 * m + i) false within (omega arith) in
            let q : (8 * m + i) / 8 ≡ m = omega arith in
            let r : (8 * m + i) % 8 ≡ i = omega arith in
            ap bit_number place ∙ ap (λ (k : ℕ). bit_number (eqb (bit_at (get_or bytes k 0) (7 - (8 * m + i) % 8)) 1)) q
            ∙ ap (λ (k : ℕ). bit_number (eqb (bit_at (get_or bytes m 0) (7 - k)) 1)) r ∙ as_number (bit_at (get_or bytes m 0) (7 - i)) (below_two (get_or bytes m 0) (7 - i))
        | inr past ↦
            ap bit_number (get_or_past (first_bits bytes n) (8 * m + i) false (omega (arith, length-first_bits bytes n)))
            ∙ sym (last_zeros m i lt small past)
      ]

  first_digit : (m : ℕ) → m < length bytes → bit_number (bit (first_bits bytes n) (8 * m)) ≡ bit_at (get_or bytes m 0) 7
  first_digit m lt = ap (λ (k : ℕ). bit_number (bit (first_bits bytes n) k)) (let e : 8 * m ≡ 8 * m + 0 = omega arith in e) ∙ digit m 0 lt (omega arith)

  byte_again : IsBytes bytes → (m : ℕ) → m < length bytes → byte_of (first_bits bytes n) m ≡ get_or bytes m 0
  byte_again h m lt =
      rw (first_digit m lt, digit m 1 lt (omega arith), digit m 2 lt (omega arith), digit m 3 lt (omega arith), digit m 4 lt (omega arith), digit m 5 lt (omega arith), digit m 6 lt (omega arith), digit m 7 lt (omega arith))
      (eight (get_or bytes m 0) (h m))

  pub bytes_again : IsBytes bytes → bytes_of (first_bits bytes n) ≡ bytes
  bytes_again h =
      let count : (length (first_bits bytes n) + 7) / 8 ≡ length bytes = omega (arith, length-first_bits bytes n) in
      sym (fill_by_all (byte_of (first_bits bytes n)) bytes ((length (first_bits bytes n) + 7) / 8) 0 (sym count) (λ m lt. sym (byte_again h m (omega arith))))

-- ---- and the bytes of a string have zeros after its last bit

-- a byte of digits, the highest first
abbrev byte_with : (ℕ → ℕ) → ℕ
byte_with digits = 128 * digits 0 + 64 * digits 1 + 32 * digits 2 + 16 * digits 3 + 8 * digits 4 + 4 * digits 5 + 2 * digits 6 + digits 7

high_only : (s : ℕ) (digits : ℕ → ℕ) → s < 8 → ((j : ℕ) → j < s → digits (7 - j) ≡ 0) → byte_with digits % 2 ^ s ≡ 0
high_only zero digits lt z = omega (arith)
high_only (suc zero) digits lt z = omega (arith, z zero (omega arith))
high_only (suc (suc zero)) digits lt z = omega (arith, z zero (omega arith), z (suc zero) (omega arith))
high_only (suc (suc (suc zero))) digits lt z = omega (arith, z zero (omega arith), z (suc zero) (omega arith), z (suc (suc zero)) (omega arith))
high_only (suc (suc (suc (suc zero)))) digits lt z = omega (arith, z zero (omega arith), z (suc zero) (omega arith), z (suc (suc zero)) (omega arith), z (suc (suc (suc zero))) (omega arith))
high_only (suc (suc (suc (suc (suc zero))))) digits lt z = omega (arith, z zero (omega arith), z (suc zero) (omega arith), z (suc (suc zero)) (omega arith), z (suc (suc (suc zero))) (omega arith), z (suc (suc (suc (suc zero)))) (omega arith))
high_only (suc (suc (suc (suc (suc (suc zero)))))) digits lt z = omega (arith, z zero (omega arith), z (suc zero) (omega arith), z (suc (suc zero)) (omega arith), z (suc (suc (suc zero))) (omega arith), z (suc (suc (suc (suc zero)))) (omega arith), z (suc (suc (suc (suc (suc zero))))) (omega arith))
high_only (suc (suc (suc (suc (suc (suc (suc zero))))))) digits lt z = omega (arith, z zero (omega arith), z (suc zero) (omega arith), z (suc (suc zero)) (omega arith), z (suc (suc (suc zero))) (omega arith), z (suc (suc (suc (suc zero)))) (omega arith), z (suc (suc (suc (suc (suc zero))))) (omega arith), z (suc (suc (suc (suc (suc (suc zero)))))) (omega arith))
high_only s digits lt z = absurd (omega arith)

module _ (b : List Bool) where
  its_digits : ℕ → ℕ → ℕ
  its_digits m i = bit_number (bit b (8 * m + i))

  with_digits : (m : ℕ) → byte_of b m ≡ byte_with (λ i. bit_number (bit b (8 * m + i)))
  with_digits m = ap (λ (k : ℕ). 128 * bit_number (bit b k) + 64 * bit_number (bit b (8 * m + 1)) + 32 * bit_number (bit b (8 * m + 2)) + 16 * bit_number (bit b (8 * m + 3)) + 8 * bit_number (bit b (8 * m + 4)) + 4 * bit_number (bit b (8 * m + 5)) + 2 * bit_number (bit b (8 * m + 6)) + bit_number (bit b (8 * m + 7))) (let e : 8 * m ≡ 8 * m + 0 = omega arith in e)

  last_byte : (m : ℕ) → 8 * m < length b → length b ≤ 8 * (m + 1) → byte_of b m % 2 ^ (8 * (m + 1) - length b) ≡ 0
  last_byte m below above =
      ap (λ (x : ℕ). x % 2 ^ (8 * (m + 1) - length b)) (with_digits m)
      ∙ high_only (8 * (m + 1) - length b) (λ i. bit_number (bit b (8 * m + i))) (omega arith)
      (λ j lt. ap bit_number (get_or_past b (8 * m + (7 - j)) false (omega arith)))

  pub string_ends : ends_in_zeros (bytes_of b) (length b) ≡ true
  string_ends =
      let long = length-bytes_of b in
      elim (cases_lt 0 (length b)) [
        | inl some ↦
            let m = length (bytes_of b) - 1 in
            let here : get_or (bytes_of b) m 0 ≡ byte_of b m = get_or-map-range_with_len (byte_of b) 0 ((length b + 7) / 8) m m 0 (omega (arith, long)) (omega arith) in
            let size : 8 * length (bytes_of b) ≡ 8 * (m + 1) = omega (arith, long) in
            eq-eqb _ _
            (ap (λ (x : ℕ). x % 2 ^ (8 * length (bytes_of b) - length b)) here
            ∙ ap (λ (k : ℕ). byte_of b m % 2 ^ (k - length b)) size
            ∙ last_byte m (omega (arith, long)) (omega (arith, long)))
        | inr none ↦
            let here : get_or (bytes_of b) (length (bytes_of b) - 1) 0 ≡ 0 = get_or_past (bytes_of b) (length (bytes_of b) - 1) 0 (omega (arith, long)) in
            let size : 8 * length (bytes_of b) - length b ≡ 0 = omega (arith, long) in
            eq-eqb _ _ (ap (λ (x : ℕ). x % 2 ^ (8 * length (bytes_of b) - length b)) here ∙ ap (λ (k : ℕ). 0 % 2 ^ k) size)
      ]

-- ---- bit strings

pub bits_exact : IsExact bits
unfolding read_bits
bits_exact =
    let el = up_to_exact 65536 (omega arith) in
    record {
      finds = λ c x d h e.
          let a = bind_ok (read_limited 65536 c) (λ n. read_bytes ((n.0 + 7) / 8) n.1 >>= λ y. cond (ends_in_zeros y.0 n.0) (Ok (first_bits y.0 n.0, y.1)) (Err (Shape (y.1.at - 1)))) (x, d) e in
          let f = bind_ok (read_bytes ((a.0.0 + 7) / 8) a.0.1) (λ y. cond (ends_in_zeros y.0 a.0.0) (Ok (first_bits y.0 a.0.0, y.1)) (Err (Shape (y.1.at - 1)))) (x, d) a.2 in
          let g = passed (ends_in_zeros f.0.0 a.0.0) (Shape (f.0.1.at - 1)) (first_bits f.0.0 a.0.0, f.0.1) (x, d) f.2 in
          let first = el.finds c a.0.0 a.0.1 h a.1 in
          let eb = exactly_exact ((a.0.0 + 7) / 8) in
          let second = eb.finds a.0.1 f.0.0 f.0.1 first.0.bytes f.1 in
          let its_bytes : IsBytes f.0.0 = front_bytes a.0.1 f.0.0 f.0.1 first.0.bytes second.0 in
          let again : bytes_of (first_bits f.0.0 a.0.0) ≡ f.0.0 = bytes_again f.0.0 a.0.0 second.1 g.0 its_bytes in
          let size : length (first_bits f.0.0 a.0.0) ≡ a.0.0 = length-first_bits f.0.0 a.0.0 in
          subst (λ (y : List Bool × Cursor). Took c (spell_number w32 (length y.0) ++ bytes_of y.0) y.1 × (length y.0 ≤ 65536)) g.1
          (subst (λ (n : ℕ). Took c (spell_number w32 n ++ bytes_of (first_bits f.0.0 a.0.0)) f.0.1 × (n ≤ 65536)) (sym size)
          (subst (λ (t : List ℕ). Took c (spell_number w32 a.0.0 ++ t) f.0.1) (sym again) (Took-then c (spell_number w32 a.0.0) a.0.1 f.0.0 f.0.1 first.0 second.0), first.1));
      knows = λ x at rest fits.
          let n = spell_number w32 (length x) in
          let text = bytes_of x in
          let eb = exactly_exact ((length x + 7) / 8) in
          rw (append_assoc n text rest, el.knows (length x) at (text ++ rest) fits, eb.knows text (at + length n) rest (length-bytes_of x), string_ends x, bits_again x (length x) refl, length-append n text)
          (ap (λ (k : ℕ). Ok (x, record { at = k; rest = rest })) (omega arith));
    }
