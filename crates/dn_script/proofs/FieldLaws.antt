-- What a judged field lets through is spelled so and keeps its limits, and what keeps them is let through.
use Rattle.std.proofs.Common.{◌≡◌, ℕ, ◌+◌, ◌-◌, ◌/◌, ◌^◌, ◌<◌, Bool, true, false, List, [], ◌∷◌, ◌++◌, length, Option, Some, None, Result, Ok, refl, sym, ap, subst, ◌∙◌, inl, inr, arith}
use Rattle.std.specs.Prelude.{nat_le, nat_lt, ◌&&◌, ◌||◌, ◌==◌, not, is_none, unwrap_or, codes}
use Rattle.std.specs.Fmt.{decimal}
use Rattle.std.specs.Str.{bytes_eq, all_ascii_digits}
use Rattle.std.specs.Str.Parse.{digits_value}
use Rattle.std.proofs.lemmas.Bool.{and_parts, or_parts, or_cases, ltb-false, le-ltb, leb-false, lt-leb, eqb-true, eq-eqb, cases_Bool, false_from_ne_true, false≢true, not_from_true}
use Rattle.std.proofs.lemmas.Fmt.{digits_decimal, digits_value-decimal, decimal-digits_value}
use Rattle.std.proofs.lemmas.Slice.Eq.{bytes_eq-Decides}
use Rattle.hex.specs.Hex.{IsBytes}
use Rattle.dn_wire.specs.declared.limits.TheConstants.{MAX_BITS, MAX_ROUND}
use Rattle.dn_wire.specs.declared.ids.ClientId.{ClientId}
use Rattle.dn_wire.specs.declared.ids.ServerId.{ServerId}
use Rattle.dn_wire.specs.declared.ids.Member.{Member}
use Rattle.dn_wire.specs.declared.ids.Member.TheVariants.{Client, Server}
use Rattle.dn_lines.specs.Fields.{IsProper, hex_text, bytes_in}
use Rattle.dn_lines.proofs.NumberLaws.{proper_decimal}
use Rattle.dn_lines.proofs.FieldLaws.{bytes_exact}
use Rattle.dn_script.specs.declared.flaw.Flaw.{Flaw}
use Rattle.dn_script.specs.declared.flaw.Flaw.TheVariants.{Number, Hex, Range, Honest, Corrupt}
use Rattle.dn_script.specs.Judged.{Judged, Group, judge, unless, is_numeral, is_outside, within, bytes_or_none, bytes_within, any_bytes, is_behind, is_member, number_behind, client_value, server_value, member_value, member_text, is_stranger, is_corrupt, client_in, server_in, member_in, corrupt_member, corrupt_server, honest_server, honest_client}
use Rattle.dn_script.specs.Script.{seen, client_number, round, place, any_number, seed, bits, has_bits_behind, place_text, place_or_first}
use Rattle.dn_script.specs.Spelled.{IsIn, IsBytesOf, IsPlace, IsMemberOf, IsHonestClientIn}
use Rattle.dn_script.proofs.JudgeLaws.{told}

pub record IsExactly {A : Type 0} (f : Judged A) (Fits : A → Type 0) : Type 0 where
  pub finds : (text : List ℕ) (x : A) → judge f text ≡ Ok x → (text ≡ f.spell x) × Fits x
  pub knows : (x : A) → Fits x → judge f (f.spell x) ≡ Ok x

-- ---- tests one after the other

abbrev judged : {A : Type 0} → A → Result A Flaw
judged x = Ok x

same_value : {A : Type 0} (x y : A) → judged x ≡ judged y → x ≡ y
same_value x y h = cc

passed : {A : Type 0} (b : Bool) (flaw : Flaw) (tests : List (Bool × Flaw)) (x y : A) → unless ((b, flaw) ∷ tests) x ≡ Ok y → (b ≡ false) × (unless tests x ≡ Ok y)
passed true flaw tests x y h = cc h
passed false flaw tests x y h = (refl, h)

value_of : {A : Type 0} (tests : List (Bool × Flaw)) (x y : A) → unless tests x ≡ Ok y → x ≡ y
value_of [] x y h = same_value x y h
value_of ((b, flaw) ∷ tests) x y h = value_of tests x y (passed b flaw tests x y h).1

more_passed : {A : Type 0} (tests : List (Bool × Flaw)) (b : Bool) (flaw : Flaw) (x y : A) → unless (tests ++ (b, flaw) ∷ []) x ≡ Ok y → (unless tests x ≡ Ok y) × (b ≡ false)
more_passed [] b flaw x y h = let p = passed b flaw [] x y h in (p.1, p.0)
more_passed ((true, first) ∷ tests) b flaw x y h = cc h
more_passed ((false, first) ∷ tests) b flaw x y h = more_passed tests b flaw x y h

pass_more : {A : Type 0} (tests : List (Bool × Flaw)) (b : Bool) (flaw : Flaw) (x y : A) → unless tests x ≡ Ok y → b ≡ false → unless (tests ++ (b, flaw) ∷ []) x ≡ Ok y
pass_more [] b flaw x y h e = rw e h
pass_more ((true, first) ∷ tests) b flaw x y h e = cc h
pass_more ((false, first) ∷ tests) b flaw x y h e = pass_more tests b flaw x y h e

-- a field with one test more behind the others
abbrev pub also : {A : Type 0} → Judged A → (A → Bool) → Flaw → Judged A
also f test flaw = record { spell = f.spell; tests = λ text. f.tests text ++ (test (f.value text), flaw) ∷ []; value = f.value }

pub also_exact : {A : Type 0} (f : Judged A) (P Q : A → Type 0) (test : A → Bool) (flaw : Flaw) → IsExactly f P
    → ((x : A) → P x → test x ≡ false → Q x) → ((x : A) → Q x → P x × (test x ≡ false)) → IsExactly (also f test flaw) Q
also_exact {A} f P Q test flaw ef to from = record {
  finds = λ text x h.
      let m = more_passed (f.tests text) (test (f.value text)) flaw (f.value text) x h in
      let e = value_of (f.tests text) (f.value text) x m.0 in
      let found = ef.finds text x m.0 in
      (found.0, to x found.1 (ap test (sym e) ∙ m.1));
  knows = λ x fits.
      let parts = from x fits in
      let known = ef.knows x parts.0 in
      let e = value_of (f.tests (f.spell x)) (f.value (f.spell x)) x known in
      pass_more (f.tests (f.spell x)) (test (f.value (f.spell x))) flaw (f.value (f.spell x)) x known (ap test e ∙ parts.1);
}

pub seen_exact : {A B : Type 0} (to : A → B) (back : B → A) (f : Judged A) (P : A → Type 0) → ((a : A) → back (to a) ≡ a) → ((b : B) → to (back b) ≡ b)
    → IsExactly f P → IsExactly (seen to back f) (λ b. P (back b))
seen_exact {A} {B} to back f P there again ef = record {
  finds = λ text x h.
      let a = moved (f.tests text) (f.value text) (back x) (sym (there (f.value text)) ∙ ap back (value_of (f.tests text) (to (f.value text)) x h)) (to (f.value text)) x h in
      ef.finds text (back x) a;
  knows = λ x fits.
      let known = ef.knows (back x) fits in
      let e = value_of (f.tests (f.spell (back x))) (f.value (f.spell (back x))) (back x) known in
      moved (f.tests (f.spell (back x))) (to (f.value (f.spell (back x)))) x (ap to e ∙ again x) (f.value (f.spell (back x))) (back x) known;
}
  where
    moved : {X Y : Type 0} (tests : List (Bool × Flaw)) (v w : X) → v ≡ w → (u y : Y) → unless tests u ≡ Ok y → unless tests v ≡ Ok w
    moved [] v w e u y h = ap Ok e
    moved ((true, first) ∷ tests) v w e u y h = cc h
    moved ((false, first) ∷ tests) v w e u y h = moved tests v w e u y h

-- ---- numbers

zero_alone : (b : ℕ) (text : List ℕ) → (length text == 0 || not (b == 48)) ≡ true → b ≡ 48 → length text ≡ 0
zero_alone b text h e =
    elim (or_cases (length text == 0) (not (b == 48)) h) [
      | inl none ↦ eqb-true (length text) 0 none
      | inr other ↦ absurd (false≢true (sym (not_from_true (b == 48) (eq-eqb b 48 e)) ∙ other))
    ]

pub numeral_spelled : (text : List ℕ) → is_numeral text ≡ true → digits_value 10 text < 2 ^ 64 → text ≡ decimal (digits_value 10 text)
numeral_spelled [] h small = cc h
numeral_spelled (b ∷ text) h small =
    let parts = and_parts (length text == 0 || not (b == 48)) (all_ascii_digits (b ∷ text)) h in
    sym (decimal-digits_value told (b ∷ text) parts.1 (omega arith) (λ e. let none : length text ≡ 0 = zero_alone b text parts.0 e in omega arith) small)

numeral_from : (text : List ℕ) → all_ascii_digits text ≡ true → IsProper text → is_numeral text ≡ true
numeral_from [] all proper = absurd (omega (arith, proper.some))
numeral_from (b ∷ text) all proper =
    elim (cases_Bool (b == 48)) [
      | inl zero ↦
          let none : length text ≡ 0 = omega (arith, proper.no_zero (eqb-true b 48 zero)) in
          rw (eq-eqb (length text) 0 none, all) refl
      | inr other ↦ rw (other, all) (any (length text == 0))
    ]
  where
    any : (b : Bool) → ((b || true) && true) ≡ true
    any true = refl
    any false = refl

pub decimal_numeral : (n : ℕ) → n < 2 ^ 64 → is_numeral (decimal n) ≡ true
decimal_numeral n small = numeral_from (decimal n) (digits_decimal told n small) (proper_decimal n small)

inside : (low high n : ℕ) → is_outside low high n ≡ false → IsIn low high n
inside low high n h =
    let parts = or_parts (nat_lt n low) (nat_lt high n) h in (ltb-false n low parts.0, ltb-false high n parts.1)

not_outside : (low high n : ℕ) → IsIn low high n → is_outside low high n ≡ false
not_outside low high n h = rw (le-ltb n low h.0, le-ltb high n h.1) refl

not_false : (b : Bool) → not b ≡ false → b ≡ true
not_false true h = refl
not_false false h = cc h

pub within_exact : (low high : ℕ) → high < 2 ^ 64 → IsExactly (within low high) (IsIn low high)
within_exact low high small = record {
  finds = λ text x h.
      let v = digits_value 10 text in
      let a = passed (not (is_numeral text)) Number ((is_outside low high v, Range) ∷ []) v x h in
      let b = passed (is_outside low high v) Range [] v x a.1 in
      let fits = inside low high v b.0 in
      let spelled : text ≡ decimal v = numeral_spelled text (not_false (is_numeral text) a.0) (omega (arith, fits.1)) in
      subst (λ n. (text ≡ decimal n) × IsIn low high n) (same_value v x b.1) (spelled, fits);
  knows = λ x fits.
      let lt : x < 2 ^ 64 = omega (arith, fits.1) in
      rw (decimal_numeral x lt, digits_value-decimal told x lt, not_outside low high x fits) refl;
}

pub place_exact : IsExactly place (IsIn 0 (MAX_BITS - 1))
place_exact = within_exact 0 (MAX_BITS - 1) (omega arith)

pub any_number_exact : IsExactly any_number (IsIn 0 18446744073709551615)
any_number_exact = within_exact 0 18446744073709551615 (omega arith)

pub round_exact : IsExactly round (λ r. IsIn 1 MAX_ROUND r.0)
round_exact = seen_exact (λ n. record { 0 = n }) (λ r. r.0) (within 1 MAX_ROUND) (IsIn 1 MAX_ROUND) (λ a. refl) (λ b. refl) (within_exact 1 MAX_ROUND (omega arith))

pub client_number_exact : (clients : ℕ) → clients < 2 ^ 64 → IsExactly (client_number clients) (λ i. IsIn 0 (clients - 1) i.0)
client_number_exact clients small =
    seen_exact (λ n. record { 0 = n }) (λ i. i.0) (within 0 (clients - 1)) (IsIn 0 (clients - 1)) (λ a. refl) (λ b. refl) (within_exact 0 (clients - 1) (omega arith))

-- ---- bytes

some_of : {A : Type 0} (o : Option A) → is_none o ≡ false → (x : A) × (o ≡ Some x)
some_of (Some x) h = (x, refl)
some_of None h = cc h

bytes_found : (text : List ℕ) → is_none (bytes_in text) ≡ false → (text ≡ hex_text (bytes_or_none text)) × IsBytes (bytes_or_none text)
bytes_found text h =
    let s = some_of (bytes_in text) h in
    let e : bytes_or_none text ≡ s.0 = ap (λ (o : Option (List ℕ)). unwrap_or o []) s.1 in
    subst (λ (bs : List ℕ). (text ≡ hex_text bs) × IsBytes bs) (sym e) (bytes_exact.finds text s.0 s.1)

pub any_bytes_exact : IsExactly any_bytes IsBytes
any_bytes_exact = record {
  finds = λ text x h.
      let a = passed (is_none (bytes_in text)) Hex [] (bytes_or_none text) x h in
      subst (λ (bs : List ℕ). (text ≡ hex_text bs) × IsBytes bs) (same_value (bytes_or_none text) x a.1) (bytes_found text a.0);
  knows = λ x fits. rw (bytes_exact.knows x fits) refl;
}

pub bytes_within_exact : (low high : ℕ) → IsExactly (bytes_within low high) (IsBytesOf low high)
bytes_within_exact low high =
    also_exact any_bytes IsBytes (IsBytesOf low high) (λ bs. is_outside low high (length bs)) Range any_bytes_exact
    (λ x good h. (inside low high (length x) h, good)) (λ x fits. (fits.1, not_outside low high (length x) fits.0))

pub seed_exact : IsExactly seed (IsBytesOf 32 32)
seed_exact = bytes_within_exact 32 32

pub bits_exact : (n : ℕ) → IsExactly (bits n) (λ bs. IsBytesOf ((n + 7) / 8) ((n + 7) / 8) bs × (has_bits_behind n bs ≡ false))
bits_exact n =
    also_exact (bytes_within ((n + 7) / 8) ((n + 7) / 8)) (IsBytesOf ((n + 7) / 8) ((n + 7) / 8)) _ (has_bits_behind n) Range (bytes_within_exact ((n + 7) / 8) ((n + 7) / 8))
    (λ x good h. (good, h)) (λ x fits. fits)

-- ---- members

behind_found : (letter : ℕ) (text : List ℕ) → is_behind letter text ≡ true → number_behind text < 2 ^ 64 → text ≡ letter ∷ decimal (number_behind text)
behind_found letter [] h small = cc h
behind_found letter (b ∷ text) h small =
    let parts = and_parts (b == letter) (is_numeral text) h in
    ap (λ (l : List ℕ). b ∷ l) (numeral_spelled text parts.1 small) ∙ ap (λ (y : ℕ). y ∷ decimal (digits_value 10 text)) (eqb-true b letter parts.0)

pub client_exact : (g : Group) → g.clients < 2 ^ 64 → IsExactly (client_in g) (λ i. i.0 < g.clients)
client_exact g small = record {
  finds = λ text x h.
      let a = passed (not (is_behind 99 text)) Number ((nat_le g.clients (number_behind text), Range) ∷ []) (client_value text) x h in
      let b = passed (nat_le g.clients (number_behind text)) Range [] (client_value text) x a.1 in
      let lt = leb-false g.clients (number_behind text) b.0 in
      subst (λ (i : ClientId). (text ≡ 99 ∷ decimal i.0) × (i.0 < g.clients)) (same_value (client_value text) x b.1)
      (behind_found 99 text (not_false (is_behind 99 text) a.0) (omega arith), lt);
  knows = λ x fits.
      let lt : x.0 < 2 ^ 64 = omega arith in
      rw (decimal_numeral x.0 lt, digits_value-decimal told x.0 lt, lt-leb g.clients x.0 fits) refl;
}

pub server_exact : (g : Group) → g.servers < 2 ^ 64 → IsExactly (server_in g) (λ j. j.0 < g.servers)
server_exact g small = record {
  finds = λ text x h.
      let a = passed (not (is_behind 115 text)) Number ((nat_le g.servers (number_behind text), Range) ∷ []) (server_value text) x h in
      let b = passed (nat_le g.servers (number_behind text)) Range [] (server_value text) x a.1 in
      let lt = leb-false g.servers (number_behind text) b.0 in
      subst (λ (j : ServerId). (text ≡ 115 ∷ decimal j.0) × (j.0 < g.servers)) (same_value (server_value text) x b.1)
      (behind_found 115 text (not_false (is_behind 115 text) a.0) (omega arith), lt);
  knows = λ x fits.
      let lt : x.0 < 2 ^ 64 = omega arith in
      rw (decimal_numeral x.0 lt, digits_value-decimal told x.0 lt, lt-leb g.servers x.0 fits) refl;
}

pub member_exact : (g : Group) → g.clients < 2 ^ 64 → g.servers < 2 ^ 64 → IsExactly (member_in g) (IsMemberOf g)
member_exact g few some = record { finds = found; knows = known }
  where
    found : (text : List ℕ) (x : Member) → judge (member_in g) text ≡ Ok x → (text ≡ member_text x) × IsMemberOf g x
    found text x h =
        let v = member_value text in
        let a = passed (not (is_member text)) Number ((is_stranger g v, Range) ∷ []) v x h in
        let b = passed (is_stranger g v) Range [] v x a.1 in
        subst (λ (m : Member). (text ≡ member_text m) × IsMemberOf g m) (same_value v x b.1)
        (elim (cases_Bool (is_behind 99 text)) [
          | inl c ↦
              let e : v ≡ Client (client_value text) = rw c refl in
              let lt = leb-false g.clients (number_behind text) (ap (is_stranger g) (sym e) ∙ b.0) in
              subst (λ (m : Member). (text ≡ member_text m) × IsMemberOf g m) (sym e) (behind_found 99 text c (omega arith), lt)
          | inr other ↦
              let e : v ≡ Server (server_value text) = rw other refl in
              let s : is_behind 115 text ≡ true = sym (ap (λ (y : Bool). y || is_behind 115 text) other) ∙ not_false (is_member text) a.0 in
              let lt = leb-false g.servers (number_behind text) (ap (is_stranger g) (sym e) ∙ b.0) in
              subst (λ (m : Member). (text ≡ member_text m) × IsMemberOf g m) (sym e) (behind_found 115 text s (omega arith), lt)
        ])

    known : (x : Member) → IsMemberOf g x → judge (member_in g) (member_text x) ≡ Ok x
    known (Client i) fits =
        let lt : i.0 < 2 ^ 64 = omega arith in
        rw (decimal_numeral i.0 lt, digits_value-decimal told i.0 lt, lt-leb g.clients i.0 fits) refl
    known (Server j) fits =
        let lt : j.0 < 2 ^ 64 = omega arith in
        rw (decimal_numeral j.0 lt, digits_value-decimal told j.0 lt, lt-leb g.servers j.0 fits) refl

pub corrupt_member_exact : (g : Group) → g.clients < 2 ^ 64 → g.servers < 2 ^ 64 → IsExactly (corrupt_member g) (λ m. IsMemberOf g m × (is_corrupt g m ≡ true))
corrupt_member_exact g few some =
    also_exact (member_in g) (IsMemberOf g) _ (λ m. not (is_corrupt g m)) Honest (member_exact g few some)
    (λ m good h. (good, not_false (is_corrupt g m) h)) (λ m fits. (fits.0, not_from_true (is_corrupt g m) fits.1))

pub corrupt_server_exact : (g : Group) → g.servers < 2 ^ 64 → IsExactly (corrupt_server g) (λ j. (j.0 < g.servers) × (is_corrupt g (Server j) ≡ true))
corrupt_server_exact g some =
    also_exact (server_in g) (λ j. j.0 < g.servers) _ (λ j. not (is_corrupt g (Server j))) Honest (server_exact g some)
    (λ j good h. (good, not_false (is_corrupt g (Server j)) h)) (λ j fits. (fits.0, not_from_true (is_corrupt g (Server j)) fits.1))

pub honest_server_exact : (g : Group) → g.servers < 2 ^ 64 → IsExactly (honest_server g) (λ j. (j.0 < g.servers) × (is_corrupt g (Server j) ≡ false))
honest_server_exact g some =
    also_exact (server_in g) (λ j. j.0 < g.servers) _ (λ j. is_corrupt g (Server j)) Corrupt (server_exact g some)
    (λ j good h. (good, h)) (λ j fits. fits)

pub honest_client_exact : (g : Group) → g.clients < 2 ^ 64 → IsExactly (honest_client g) (IsHonestClientIn g)
honest_client_exact g few = record {
  finds = λ text x h.
      let v = Client (client_value text) in
      let a = passed (not (is_behind 99 text)) Number ((nat_le g.clients (number_behind text), Range) ∷ (is_corrupt g v, Corrupt) ∷ []) v x h in
      let b = passed (nat_le g.clients (number_behind text)) Range ((is_corrupt g v, Corrupt) ∷ []) v x a.1 in
      let d = passed (is_corrupt g v) Corrupt [] v x b.1 in
      let lt = leb-false g.clients (number_behind text) b.0 in
      subst (λ (m : Member). (text ≡ member_text m) × IsHonestClientIn g m) (same_value v x d.1)
      (behind_found 99 text (not_false (is_behind 99 text) a.0) (omega arith), (lt, d.0));
  knows = known;
}
  where
    known : (x : Member) → IsHonestClientIn g x → judge (honest_client g) (member_text x) ≡ Ok x
    known (Client i) fits =
        let lt : i.0 < 2 ^ 64 = omega (arith, fits.0) in
        rw (decimal_numeral i.0 lt, digits_value-decimal told i.0 lt, lt-leb g.clients i.0 fits.0, fits.1) refl
    known (Server j) fits = absurd fits

-- ---- a place, or `first`

no_first : (k : ℕ) → k < 2 ^ 64 → bytes_eq (decimal k) (codes "first") ≡ false
no_first k small =
    false_from_ne_true (bytes_eq (decimal k) (codes "first"))
    (λ same. false≢true (ap all_ascii_digits (sym ((bytes_eq-Decides (decimal k) (codes "first")).0 same)) ∙ digits_decimal told k small))

pub place_or_first_exact : IsExactly place_or_first IsPlace
place_or_first_exact = record { finds = found; knows = known }
  where
    told_as : {A B : Type 0} (to : A → B) (tests : List (Bool × Flaw)) (v : A) (y : B) → unless tests (to v) ≡ Ok y → unless tests v ≡ Ok v
    told_as to [] v y h = refl
    told_as to ((true, first) ∷ tests) v y h = cc h
    told_as to ((false, first) ∷ tests) v y h = told_as to tests v y h

    put_as : {A B : Type 0} (to : A → B) (tests : List (Bool × Flaw)) (v w : A) → unless tests v ≡ Ok w → unless tests (to v) ≡ Ok (to w)
    put_as to [] v w h = ap (λ (x : _). Ok (to x)) (same_value v w h)
    put_as to ((true, first) ∷ tests) v w h = cc h
    put_as to ((false, first) ∷ tests) v w h = put_as to tests v w h

    found : (text : List ℕ) (x : Option ℕ) → judge place_or_first text ≡ Ok x → (text ≡ place_text x) × IsPlace x
    found text x h =
        elim (cases_Bool (bytes_eq text (codes "first"))) [
          | inl first ↦
              let e : judged None ≡ Ok x = rw first at h in
              subst (λ (k : Option ℕ). (text ≡ place_text k) × IsPlace k) (same_value None x e) ((bytes_eq-Decides text (codes "first")).0 first, tt)
          | inr other ↦
              let e : unless (place.tests text) (Some (place.value text)) ≡ Ok x = rw other at h in
              let f = place_exact.finds text (place.value text) (told_as (λ k. Some k) (place.tests text) (place.value text) x e) in
              subst (λ (k : Option ℕ). (text ≡ place_text k) × IsPlace k) (value_of (place.tests text) (Some (place.value text)) x e) (f.0, omega (arith, f.1.1))
        ]

    known : (x : Option ℕ) → IsPlace x → judge place_or_first (place_text x) ≡ Ok x
    known None fits = refl
    known (Some k) fits =
        let other = no_first k (omega arith) in
        let p = place_exact.knows k (omega arith, omega arith) in
        rw other (put_as (λ (n : ℕ). Some n) (place.tests (decimal k)) (place.value (decimal k)) k p)
