-- The law of each field.
use Rattle.std.proofs.Common.{◌≡◌, ℕ, zero, suc, ◌+◌, ◌^◌, ◌<◌, ◌≤◌, Bool, true, false, cond, eqb, ltb, List, [], ◌∷◌, ◌++◌, length, get_or, take, Result, Ok, Err, refl, sym, ap, subst, append_assoc, arith}
use Rattle.std.specs.Prelude.{◌||◌}
use Rattle.std.specs.Int.{Width, w16, w32, w64, byte_len, from_be_bytes, to_be_bytes}
use Rattle.std.proofs.lemmas.Bool.{ltb-false, le-ltb}
use Rattle.std.proofs.lemmas.Bool.Decides.{nat_tests}
use Rattle.std.proofs.lemmas.List.{take_at, drop_at, take-append-drop, length-append, length-take}
use Rattle.std.proofs.lemmas.Nat.{be_bytes_2, be_bytes_4, be_bytes_8, from_be_bytes-to_be_bytes_2, from_be_bytes-to_be_bytes_4, from_be_bytes-to_be_bytes_8}
use Rattle.dn_wire.specs.Cursor.{Cursor, past}
use Rattle.dn_wire.specs.Fields.{byte_at, number_at, bytes_at, limited_at}
use Rattle.dn_wire.specs.declared.reader.FieldFault.TheVariants as fields
use Rattle.dn_record_types.specs.declared.fault.RecordFault.TheVariants.{Shape}
use Rattle.dn_record_types.specs.Part.{Read, Part, field}
use Rattle.dn_record_types.specs.Fields.{spell_number, read_byte, read_number, read_limited, read_bytes, read_few, read_flag, byte, short, word, long, up_to, few, flag, exactly, sized}
use Rattle.dn_record_types.proofs.Laws.{IsBytes, IsBytes-drop, IsBytes-take, bind_ok, not_refused, field_ok, Took, Took-then, Finds, Knows, IsExact}

-- a test that did not fail, and what went on
refused : {A E : Type 0} (b : Bool) (d : E) (r : Result A E) (y : A) → cond b (Err d) r ≡ Ok y → (b ≡ false) × (r ≡ Ok y)
refused true d r y e = absurd cc
refused false d r y e = (refl, e)

pub took_front : (c : Cursor) (n : ℕ) → n ≤ length c.rest → IsBytes c.rest → Took c (take n c.rest) (past c n)
took_front c n le h = record {
  parts = sym (take-append-drop n c.rest);
  moved = omega (arith, length-take n c.rest);
  bytes = IsBytes-drop n c.rest h;
}

-- ---- one byte

first_is : (bytes : List ℕ) → 1 ≤ length bytes → take 1 bytes ≡ get_or bytes 0 0 ∷ []
first_is [] le = absurd (omega arith)
first_is (b ∷ bytes) le = refl

byte_finds : Finds read_byte (λ n. n ∷ []) (λ n. n < 256)
unfolding read_byte
byte_finds c x d h e =
    let g = not_refused (ltb (length c.rest) 1) (fields.Cut c.at) (get_or c.rest 0 0, past c 1) (x, d) (field_ok (byte_at c) (x, d) e) in
    let le : 1 ≤ length c.rest = ltb-false _ _ g.0 in
    subst (λ (y : ℕ × Cursor). Took c (y.0 ∷ []) y.1 × (y.0 < 256)) g.1
    (subst (λ (t : List ℕ). Took c t (past c 1)) (first_is c.rest le) (took_front c 1 le h), h 0)

byte_knows : Knows read_byte (λ n. n ∷ []) (λ n. n < 256)
unfolding read_byte
byte_knows x at rest fits = rw (le-ltb (length (x ∷ rest)) 1 (omega arith)) refl

pub byte_exact : IsExact byte
byte_exact = record { finds = byte_finds; knows = byte_knows }

-- ---- numbers

pub record IsWide (w : Width) (limit : ℕ) : Type 0 where
  pub len : (n : ℕ) → length (to_be_bytes w n) ≡ byte_len w
  pub back : (bytes : List ℕ) → length bytes ≡ byte_len w → IsBytes bytes → to_be_bytes w (from_be_bytes w bytes) ≡ bytes
  pub again : (n : ℕ) → n < limit → from_be_bytes w (to_be_bytes w n) ≡ n
  pub below : (bytes : List ℕ) → IsBytes bytes → from_be_bytes w bytes < limit

wide16 : IsWide w16 (2 ^ 16)
wide16 = record {
  len = λ n. refl;
  back = λ bytes len fits. be_bytes_2 bytes _ len fits refl;
  again = λ n lt. from_be_bytes-to_be_bytes_2 n lt;
  below = λ bytes fits. omega (arith, fits 0, fits 1);
}

wide32 : IsWide w32 (2 ^ 32)
wide32 = record {
  len = λ n. refl;
  back = λ bytes len fits. be_bytes_4 bytes _ len fits refl;
  again = λ n lt. from_be_bytes-to_be_bytes_4 n lt;
  below = λ bytes fits. omega (arith, fits 0, fits 1, fits 2, fits 3);
}

wide64 : IsWide w64 (2 ^ 64)
wide64 = record {
  len = λ n. refl;
  back = λ bytes len fits. be_bytes_8 bytes _ len fits refl;
  again = λ n lt. from_be_bytes-to_be_bytes_8 n lt;
  below = λ bytes fits. omega (arith, fits 0, fits 1, fits 2, fits 3, fits 4, fits 5, fits 6, fits 7);
}

-- the number in front
front : (w : Width) (limit : ℕ) → IsWide w limit → (c : Cursor) → byte_len w ≤ length c.rest → IsBytes c.rest → Took c (to_be_bytes w (from_be_bytes w (take (byte_len w) c.rest))) (past c (byte_len w)) × (from_be_bytes w (take (byte_len w) c.rest) < limit)
front w limit wide c le h =
    let spelled = wide.back (take (byte_len w) c.rest) (omega (arith, length-take (byte_len w) c.rest)) (IsBytes-take (byte_len w) c.rest h) in
    (subst (λ (t : List ℕ). Took c t (past c (byte_len w))) (sym spelled) (took_front c (byte_len w) le h), wide.below (take (byte_len w) c.rest) (IsBytes-take (byte_len w) c.rest h))

number_finds : (w : Width) (limit : ℕ) → IsWide w limit → Finds (read_number w) (spell_number w) (λ n. n < limit)
unfolding read_number spell_number
number_finds w limit wide c x d h e =
    let g = not_refused (ltb (length c.rest) (byte_len w)) (fields.Cut c.at) (from_be_bytes w (take (byte_len w) c.rest), past c (byte_len w)) (x, d) (field_ok (number_at w c) (x, d) e) in
    subst (λ (y : ℕ × Cursor). Took c (to_be_bytes w y.0) y.1 × (y.0 < limit)) g.1 (front w limit wide c (ltb-false _ _ g.0) h)

number_knows : (w : Width) (limit : ℕ) → IsWide w limit → Knows (read_number w) (spell_number w) (λ n. n < limit)
unfolding read_number spell_number
number_knows w limit wide x at rest fits =
    let len = wide.len x in
    let enough : ltb (length (to_be_bytes w x ++ rest)) (byte_len w) ≡ false = le-ltb _ _ (omega (arith, length-append (to_be_bytes w x) rest)) in
    rw (enough, take_at (to_be_bytes w x) rest (byte_len w) len, drop_at (to_be_bytes w x) rest (byte_len w) len, wide.again x fits)
    (ap (λ (k : ℕ). Ok (x, record { at = at + k; rest = rest })) (sym len))

pub short_exact : IsExact short
short_exact = record { finds = number_finds w16 (2 ^ 16) wide16; knows = number_knows w16 (2 ^ 16) wide16 }

pub word_exact : IsExact word
word_exact = record { finds = number_finds w32 (2 ^ 32) wide32; knows = number_knows w32 (2 ^ 32) wide32 }

pub long_exact : IsExact long
long_exact = record { finds = number_finds w64 (2 ^ 64) wide64; knows = number_knows w64 (2 ^ 64) wide64 }

limited_finds : (limit : ℕ) → Finds (read_limited limit) (spell_number w32) (λ n. n ≤ limit)
unfolding read_limited spell_number
limited_finds limit c x d h e =
    let n = from_be_bytes w32 (take 4 c.rest) in
    let f = refused (ltb (length c.rest) 4) (fields.Cut c.at) (cond (ltb limit n) (Err (fields.Over c.at limit)) (Ok (n, past c 4))) (x, d) (field_ok (limited_at limit c) (x, d) e) in
    let g = not_refused (ltb limit n) (fields.Over c.at limit) (n, past c 4) (x, d) f.1 in
    subst (λ (y : ℕ × Cursor). Took c (to_be_bytes w32 y.0) y.1 × (y.0 ≤ limit)) g.1
    ((front w32 (2 ^ 32) wide32 c (ltb-false _ _ f.0) h).0, ltb-false _ _ g.0)

-- the same at any width
abbrev limited_by : Width → ℕ → Cursor → Read ℕ
limited_by w limit c =
    field (cond (ltb (length c.rest) (byte_len w)) (Err (fields.Cut c.at))
    (cond (ltb limit (from_be_bytes w (take (byte_len w) c.rest))) (Err (fields.Over c.at limit)) (Ok (from_be_bytes w (take (byte_len w) c.rest), past c (byte_len w)))))

limited_again : (w : Width) (size : ℕ) → IsWide w size → (limit : ℕ) → limit < size → Knows (limited_by w limit) (to_be_bytes w) (λ n. n ≤ limit)
limited_again w size wide limit small x at rest fits =
    let len = wide.len x in
    let enough : ltb (length (to_be_bytes w x ++ rest)) (byte_len w) ≡ false = le-ltb _ _ (omega (arith, length-append (to_be_bytes w x) rest)) in
    let within : ltb limit x ≡ false = le-ltb _ _ fits in
    rw (enough, take_at (to_be_bytes w x) rest (byte_len w) len, drop_at (to_be_bytes w x) rest (byte_len w) len, wide.again x (omega arith), within)
    (ap (λ (k : ℕ). Ok (x, record { at = at + k; rest = rest })) (sym len))

limited_knows : (limit : ℕ) → limit < 2 ^ 32 → Knows (read_limited limit) (spell_number w32) (λ n. n ≤ limit)
unfolding read_limited spell_number
limited_knows limit small = limited_again w32 (2 ^ 32) wide32 limit small

pub up_to_exact : (limit : ℕ) → limit < 2 ^ 32 → IsExact (up_to limit)
up_to_exact limit small = record { finds = limited_finds limit; knows = limited_knows limit small }

-- ---- a byte with few values

neither : (s t : Bool) → (s || t) ≡ false → (s ≡ false) × (t ≡ false)
neither true t e = absurd cc
neither false t e = (refl, e)

above_zero : (b : ℕ) → eqb b 0 ≡ false → 1 ≤ b
above_zero zero e = absurd cc
above_zero (suc b) e = omega arith

not_zero : (b : ℕ) → 1 ≤ b → eqb b 0 ≡ false
not_zero b h = grind (arith, nat_tests)

few_finds : (n : ℕ) → Finds (read_few n) (λ b. b ∷ []) (λ b. (1 ≤ b) × (b ≤ n))
unfolding read_few
few_finds n c x d h e =
    let a = bind_ok (read_byte c) (λ b. cond (eqb b.0 0 || ltb n b.0) (Err (Shape c.at)) (Ok b)) (x, d) e in
    let g = not_refused (eqb a.0.0 0 || ltb n a.0.0) (Shape c.at) a.0 (x, d) a.2 in
    let t = neither (eqb a.0.0 0) (ltb n a.0.0) g.0 in
    subst (λ (y : ℕ × Cursor). Took c (y.0 ∷ []) y.1 × ((1 ≤ y.0) × (y.0 ≤ n))) g.1
    ((byte_finds c a.0.0 a.0.1 h a.1).0, (above_zero a.0.0 t.0, ltb-false _ _ t.1))

few_knows : (n : ℕ) → n < 256 → Knows (read_few n) (λ b. b ∷ []) (λ b. (1 ≤ b) × (b ≤ n))
unfolding read_few
few_knows n small x at rest fits = rw (byte_knows x at rest (omega arith), not_zero x fits.0, le-ltb n x fits.1) refl

pub few_exact : (n : ℕ) → n < 256 → IsExact (few n)
few_exact n small = record { finds = few_finds n; knows = few_knows n small }

-- ---- a byte for yes or no

yes_or_no : (b : ℕ) → b ≤ 1 → cond (eqb b 1) 1 0 ≡ b
yes_or_no b h = grind (arith, nat_tests)

flag_finds : Finds read_flag (λ yes. cond yes 1 0 ∷ []) (λ yes. Unit {0})
unfolding read_flag
flag_finds c x d h e =
    let a = bind_ok (read_byte c) (λ b. cond (ltb 1 b.0) (Err (Shape c.at)) (Ok (eqb b.0 1, b.1))) (x, d) e in
    let g = not_refused (ltb 1 a.0.0) (Shape c.at) (eqb a.0.0 1, a.0.1) (x, d) a.2 in
    subst (λ (y : Bool × Cursor). Took c (cond y.0 1 0 ∷ []) y.1 × Unit {0}) g.1
    (subst (λ (n : ℕ). Took c (n ∷ []) a.0.1) (sym (yes_or_no a.0.0 (ltb-false _ _ g.0))) (byte_finds c a.0.0 a.0.1 h a.1).0, tt)

flag_knows : Knows read_flag (λ yes. cond yes 1 0 ∷ []) (λ yes. Unit {0})
unfolding read_flag
flag_knows true at rest fits = rw (byte_knows 1 at rest (omega arith)) refl
flag_knows false at rest fits = rw (byte_knows 0 at rest (omega arith)) refl

pub flag_exact : IsExact flag
flag_exact = record { finds = flag_finds; knows = flag_knows }

-- ---- bytes

bytes_finds : (n : ℕ) → Finds (read_bytes n) (λ bytes. bytes) (λ bytes. length bytes ≡ n)
unfolding read_bytes
bytes_finds n c x d h e =
    let g = not_refused (ltb (length c.rest) n) (fields.Cut c.at) (take n c.rest, past c n) (x, d) (field_ok (bytes_at n c) (x, d) e) in
    let le : n ≤ length c.rest = ltb-false _ _ g.0 in
    subst (λ (y : List ℕ × Cursor). Took c y.0 y.1 × (length y.0 ≡ n)) g.1 (took_front c n le h, omega (arith, length-take n c.rest))

pub bytes_knows : (n : ℕ) → Knows (read_bytes n) (λ bytes. bytes) (λ bytes. length bytes ≡ n)
unfolding read_bytes
bytes_knows n x at rest fits =
    let enough : ltb (length (x ++ rest)) n ≡ false = le-ltb _ _ (omega (arith, length-append x rest)) in
    rw (enough, take_at x rest n fits, drop_at x rest n fits) (ap (λ (k : ℕ). Ok (x, record { at = at + k; rest = rest })) (sym fits))

pub exactly_exact : (n : ℕ) → IsExact (exactly n)
exactly_exact n = record { finds = bytes_finds n; knows = bytes_knows n }

pub sized_exact : (count : Part ℕ) → IsExact count → IsExact (sized count)
sized_exact count ec = record {
  finds = λ c x d h e.
      let a = bind_ok (count.read c) (λ n. read_bytes n.0 n.1) (x, d) e in
      let first = ec.finds c a.0.0 a.0.1 h a.1 in
      let second = bytes_finds a.0.0 a.0.1 x d first.0.bytes a.2 in
      subst (λ (n : ℕ). Took c (count.spell n ++ x) d × count.Fits n) (sym second.1)
      (Took-then c (count.spell a.0.0) a.0.1 x d first.0 second.0, first.1);
  knows = λ x at rest fits.
      rw (append_assoc (count.spell (length x)) x rest, ec.knows (length x) at (x ++ rest) fits, bytes_knows (length x) x (at + length (count.spell (length x))) rest refl, length-append (count.spell (length x)) x)
      (ap (λ (k : ℕ). Ok (x, record { at = k; rest = rest })) (omega arith));
}
