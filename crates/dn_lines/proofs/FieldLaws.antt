-- The law of each field.
use Rattle.std.proofs.Common.{◌≡◌, ℕ, ◌^◌, ◌<◌, ◌≤◌, Bool, true, false, cond, List, [], ◌∷◌, ◌++◌, length, get_or, slice_index, zero, suc, Option, Some, None, Result, Ok, Err, refl, sym, ap, subst, ◌∙◌, inl, inr, arith}
use Rattle.std.specs.Prelude.{nat_le, ◌&&◌, ◌==◌, not, ◌/◌, ◌%◌}
use Rattle.std.specs.Fmt.{decimal}
use Rattle.std.specs.Result.{result_ok}
use Rattle.std.specs.Str.{bytes_eq}
use Rattle.std.specs.Str.Parse.{digits_value}
use Rattle.std.proofs.lemmas.Bool.{and_parts, leb-true, eqb-true, eq-eqb, ne_eqb, cases_Bool, cond-true, cond-false, false_from_ne_true}
use Rattle.std.proofs.lemmas.Fmt.{digits_decimal}
use Rattle.std.proofs.lemmas.Str.Parse.{digit_at}
use Rattle.std.proofs.lemmas.List.{get_or_default}
use Rattle.std.proofs.lemmas.List.Elements.{All-cons, All-nil, All-append}
use Rattle.std.proofs.lemmas.Option.{same_Some, none-some, cond_some}
use Rattle.std.proofs.lemmas.Slice.Eq.{bytes_eq-Decides}
use Rattle.hex.specs.Hex.{encode_lower, encode_with, lower_digits, decode_of, IsBytes}
use Rattle.hex.proofs.HexLemmas.{decode_of-ok, decode_of-encode_lower, length-encode_with}
use Rattle.dn_wire.specs.declared.ids.Member.{Member}
use Rattle.dn_wire.specs.declared.ids.Member.TheVariants.{Client, Server}
use Rattle.dn_lines.specs.Field.{Field, ◌>>=◌, made, seen, cut, beside}
use Rattle.dn_lines.specs.Fields.{number_in, between, number, long_number, hex_text, if_spelled, bytes_in, bytes, read_behind, behind, client, server, slot, round, member_text, IsMember, member_in, member, first_spelled, one_of}
use Rattle.dn_lines.proofs.FormLaws.{IsFree, IsExact, bind_some, made_some, cut_of_parts, cut_parts}
use Rattle.dn_lines.proofs.NumberLaws.{own, number_some}
use Rattle.dn_lines.proofs.HexLaws.{if_spelled_is}

-- ---- fields seen as another type

pub seen_exact : {A B : Type 0} (to : A → B) (back : B → A) (f : Field A) → ((a : A) → back (to a) ≡ a) → ((b : B) → to (back b) ≡ b) → IsExact f → IsExact (seen to back f)
seen_exact {A} {B} to back f there again ef = record {
  finds = λ text x h.
      let a = made_some to (f.read text) x h in
      let r = ef.finds text a.0 a.1 in
      subst (λ (b : B). (text ≡ f.spell (back b)) × f.Fits (back b)) a.2
      (subst (λ (y : A). (text ≡ f.spell y) × f.Fits y) (sym (there a.0)) r);
  knows = λ x fits. rw (ef.knows (back x) fits) (ap Some (again x));
  free = λ x fits. ef.free (back x) fits;
}

-- whether a byte doesn't stand in a text
abbrev pub is_free : ℕ → List ℕ → Bool
is_free c [] = true
is_free c (b ∷ text) = not (b == c) && is_free c text

not_true : (b : Bool) → not b ≡ true → b ≡ false
not_true true h = cc h
not_true false h = refl

-- ---- two fields in one

pub beside_exact : {A B : Type 0} (c : ℕ) (f : Field A) (g : Field B) → (c == 32) ≡ false → ((x : A) → f.Fits x → IsFree c (f.spell x)) → IsExact f → IsExact g → IsExact (beside c f g)
beside_exact {A} {B} c f g other apart ef eg = record {
  finds = λ text x h.
      let a = bind_some (cut c text) (λ parts. f.read parts.0 >>= λ y. g.read parts.1 >>= λ z. Some (y, z)) x h in
      let b = bind_some (f.read a.0.0) (λ y. g.read a.0.1 >>= λ z. Some (y, z)) x a.2 in
      let d = bind_some (g.read a.0.1) (λ z. Some (b.0, z)) x b.2 in
      let parts = cut_parts c text a.0.0 a.0.1 a.1 in
      let first = ef.finds a.0.0 b.0 b.1 in
      let second = eg.finds a.0.1 d.0 d.1 in
      let it : A × B = (b.0, d.0) in
      subst (λ (y : A × B). (text ≡ f.spell y.0 ++ c ∷ g.spell y.1) × (f.Fits y.0 × g.Fits y.1)) (same_Some it x d.2)
      (parts ∙ (ap (λ (l : List ℕ). l ++ c ∷ a.0.1) first.0 ∙ ap (λ (l : List ℕ). f.spell b.0 ++ c ∷ l) second.0), (first.1, second.1));
  knows = λ x fits. rw (cut_of_parts c (f.spell x.0) (g.spell x.1) (apart x.0 fits.0), ef.knows x.0 fits.0, eg.knows x.1 fits.1) refl;
  free = λ x fits. All-append (λ b. (b == 32) ≡ false) (f.spell x.0) (c ∷ g.spell x.1) (ef.free x.0 fits.0) (All-cons (λ b. (b == 32) ≡ false) c (g.spell x.1) other (eg.free x.1 fits.1));
}

-- ---- numbers

-- no digit
abbrev pub IsOther : ℕ → Type 0
IsOther c = 48 ≤ c → c ≤ 57 → ⊥

pub decimal_free : (c v : ℕ) → IsOther c → v < 2 ^ 64 → IsFree c (decimal v)
decimal_free c v other small k d lt =
    let digit = digit_at (decimal v) k (digits_decimal own v small) lt in
    let same = get_or_default (decimal v) k d 0 lt in
    ne_eqb (get_or (decimal v) k d) c (λ e. other (omega (arith, digit, same, e)) (omega (arith, digit, same, e)))

between_finds : (low high : ℕ) (text : List ℕ) (v : ℕ) → number_in low high text ≡ Some v → (text ≡ decimal v) × ((low ≤ v) × (v ≤ high))
between_finds low high text v h =
    let value = digits_value 10 text in
    let c = cond_some (bytes_eq text (decimal value) && (nat_le low value && nat_le value high)) value v h in
    let parts = and_parts (bytes_eq text (decimal value)) (nat_le low value && nat_le value high) c.0 in
    let bounds = and_parts (nat_le low value) (nat_le value high) parts.1 in
    subst (λ n. (text ≡ decimal n) × ((low ≤ n) × (n ≤ high))) c.1
    ((bytes_eq-Decides text (decimal value)).0 parts.0, (leb-true low value bounds.0, leb-true value high bounds.1))

pub between_exact : (low high : ℕ) → high < 2 ^ 64 → IsExact (between low high)
between_exact low high small = record {
  finds = between_finds low high;
  knows = λ v fits. number_some low high v (decimal v) (omega arith) fits.0 fits.1 refl;
  free = λ v fits. decimal_free 32 v (λ le. absurd (omega arith)) (omega arith);
}

pub number_exact : IsExact number
number_exact = between_exact 0 4294967295 (omega arith)

pub long_number_exact : IsExact long_number
long_number_exact = between_exact 0 18446744073709551615 (omega arith)

-- ---- bytes

free_at : (cs : List ℕ) (i : ℕ) → is_free 32 cs ≡ true → (slice_index cs i == 32) ≡ false
free_at [] i h = refl
free_at (c ∷ cs) zero h = not_true (c == 32) (and_parts (not (c == 32)) (is_free 32 cs) h).0
free_at (c ∷ cs) (suc i) h = free_at cs i (and_parts (not (c == 32)) (is_free 32 cs) h).1

encoded_free : (x : List ℕ) → IsFree 32 (encode_lower x)
unfolding encode_with
encoded_free [] = All-nil (λ b. (b == 32) ≡ false)
encoded_free (b ∷ x) =
    All-cons (λ b. (b == 32) ≡ false) (slice_index lower_digits (b / 16)) (slice_index lower_digits (b % 16) ∷ encode_with lower_digits x) (free_at lower_digits (b / 16) refl)
    (All-cons (λ b. (b == 32) ≡ false) (slice_index lower_digits (b % 16)) (encode_with lower_digits x) (free_at lower_digits (b % 16) refl) (encoded_free x))

hex_free : (x : List ℕ) → IsBytes x → IsFree 32 (hex_text x)
hex_free [] fits = All-cons (λ b. (b == 32) ≡ false) 45 [] refl (All-nil (λ b. (b == 32) ≡ false))
hex_free (b ∷ x) fits = encoded_free (b ∷ x)

ok_from : {E : Type 0} (d : Result (List ℕ) E) (x : List ℕ) → result_ok d ≡ Some x → d ≡ Ok x
ok_from (Ok b) x h = ap Ok (same_Some b x h)
ok_from (Err e) x h = absurd (none-some x h)

bytes_finds : (text x : List ℕ) → bytes_in text ≡ Some x → (text ≡ hex_text x) × IsBytes x
unfolding bytes_in
bytes_finds text x h =
    elim (cases_Bool (bytes_eq text (45 ∷ []))) [
      | inl dash ↦
          subst (λ (y : List ℕ). (text ≡ hex_text y) × IsBytes y)
          (same_Some [] x (sym (cond-true (bytes_eq text (45 ∷ [])) (Some []) (result_ok (decode_of text) >>= if_spelled text) dash) ∙ h))
          ((bytes_eq-Decides text (45 ∷ [])).0 dash, λ i. omega arith)
      | inr other ↦
          let a = bind_some (result_ok (decode_of text)) (if_spelled text) x (sym (cond-false (bytes_eq text (45 ∷ [])) (Some []) (result_ok (decode_of text) >>= if_spelled text) other) ∙ h) in
          let c = cond_some (bytes_eq text (hex_text a.0)) a.0 x a.2 in
          let good = (decode_of-ok text a.0 (ok_from (decode_of text) a.0 a.1)).3 in
          subst (λ (y : List ℕ). (text ≡ hex_text y) × IsBytes y) c.1 ((bytes_eq-Decides text (hex_text a.0)).0 c.0, good)
    ]

long_text : (b : ℕ) (x : List ℕ) → bytes_eq (encode_lower (b ∷ x)) (45 ∷ []) ≡ false
long_text b x =
    false_from_ne_true (bytes_eq (encode_lower (b ∷ x)) (45 ∷ []))
    (λ same. omega (arith, ap length ((bytes_eq-Decides (encode_lower (b ∷ x)) (45 ∷ [])).0 same), length-encode_with lower_digits (b ∷ x)))

bytes_knows : (x : List ℕ) → IsBytes x → bytes_in (hex_text x) ≡ Some x
unfolding bytes_in
bytes_knows [] fits = refl
bytes_knows (b ∷ x) fits = rw (long_text b x, decode_of-encode_lower (b ∷ x) fits) (if_spelled_is (encode_lower (b ∷ x)) (b ∷ x) refl)

pub bytes_exact : IsExact bytes
bytes_exact = record { finds = bytes_finds; knows = bytes_knows; free = hex_free }

-- ---- behind a letter

behind_finds : {A : Type 0} (c : ℕ) (f : Field A) → IsExact f → (text : List ℕ) (x : A) → read_behind c f.read text ≡ Some x → (text ≡ c ∷ f.spell x) × f.Fits x
behind_finds c f ef [] x h = absurd (none-some x h)
behind_finds c f ef (b ∷ text) x h =
    elim (cases_Bool (b == c)) [
      | inl same ↦
          let r = ef.finds text x (sym (cond-true (b == c) (f.read text) None same) ∙ h) in
          (ap (λ (l : List ℕ). b ∷ l) r.0 ∙ ap (λ (y : ℕ). y ∷ f.spell x) (eqb-true b c same), r.1)
      | inr other ↦ absurd (none-some x (sym (cond-false (b == c) (f.read text) None other) ∙ h))
    ]

pub behind_exact : {A : Type 0} (c : ℕ) (f : Field A) → (c == 32) ≡ false → IsExact f → IsExact (behind c f)
behind_exact c f other ef = record {
  finds = behind_finds c f ef;
  knows = λ x fits. rw (eq-eqb c c refl, ef.knows x fits) refl;
  free = λ x fits. All-cons (λ b. (b == 32) ≡ false) c (f.spell x) other (ef.free x fits);
}

pub client_exact : IsExact client
client_exact = seen_exact (λ n. record { 0 = n }) (λ i. i.0) (behind 99 number) (λ a. refl) (λ b. refl) (behind_exact 99 number refl number_exact)

pub server_exact : IsExact server
server_exact = seen_exact (λ n. record { 0 = n }) (λ i. i.0) (behind 115 number) (λ a. refl) (λ b. refl) (behind_exact 115 number refl number_exact)

pub slot_exact : IsExact slot
slot_exact = seen_exact (λ n. record { 0 = n }) (λ i. i.0) number (λ a. refl) (λ b. refl) number_exact

pub round_exact : IsExact round
round_exact = seen_exact (λ n. record { 0 = n }) (λ i. i.0) long_number (λ a. refl) (λ b. refl) long_number_exact

-- ---- members

abbrev as_client : List ℕ → Option Member
as_client text = made (λ n. Client (record { 0 = n })) (number.read text)

abbrev as_server : List ℕ → Option Member
as_server text = made (λ n. Server (record { 0 = n })) (number.read text)

abbrev behind_c : ℕ → List ℕ → Option Member
behind_c b text = cond (b == 115) (as_server text) None

member_finds : (text : List ℕ) (m : Member) → member_in text ≡ Some m → (text ≡ member_text m) × IsMember m
unfolding member_in
member_finds [] m h = absurd (none-some m h)
member_finds (b ∷ text) m h =
    elim (cases_Bool (b == 99)) [
      | inl c ↦
          let a = made_some (λ n. Client (record { 0 = n })) (number.read text) m (sym (cond-true (b == 99) (as_client text) (behind_c b text) c) ∙ h) in
          let r = number_exact.finds text a.0 a.1 in
          subst (λ (y : Member). (b ∷ text ≡ member_text y) × IsMember y) a.2
          (ap (λ (t : List ℕ). b ∷ t) r.0 ∙ ap (λ (y : ℕ). y ∷ decimal a.0) (eqb-true b 99 c), r.1)
      | inr other ↦
          elim (cases_Bool (b == 115)) [
            | inl s ↦
                let a = made_some (λ n. Server (record { 0 = n })) (number.read text) m (sym (cond-true (b == 115) (as_server text) None s) ∙ (sym (cond-false (b == 99) (as_client text) (behind_c b text) other) ∙ h)) in
                let r = number_exact.finds text a.0 a.1 in
                subst (λ (y : Member). (b ∷ text ≡ member_text y) × IsMember y) a.2
                (ap (λ (t : List ℕ). b ∷ t) r.0 ∙ ap (λ (y : ℕ). y ∷ decimal a.0) (eqb-true b 115 s), r.1)
            | inr neither ↦ absurd (none-some m (sym (cond-false (b == 115) (as_server text) None neither) ∙ (sym (cond-false (b == 99) (as_client text) (behind_c b text) other) ∙ h)))
          ]
    ]

member_knows : (m : Member) → IsMember m → member_in (member_text m) ≡ Some m
unfolding member_in
member_knows (Client i) fits = rw (number_exact.knows i.0 fits) refl
member_knows (Server j) fits = rw (number_exact.knows j.0 fits) refl

member_free : (m : Member) → IsMember m → IsFree 32 (member_text m)
member_free (Client i) fits = client_exact.free i fits
member_free (Server j) fits = server_exact.free j fits

pub member_exact : IsExact member
member_exact = record { finds = member_finds; knows = member_knows; free = member_free }

-- ---- words

first_spelled_finds : {A : Type 0} (spell : A → List ℕ) (xs : List A) (text : List ℕ) (x : A) → first_spelled spell xs text ≡ Some x → text ≡ spell x
first_spelled_finds spell [] text x h = absurd (none-some x h)
first_spelled_finds spell (y ∷ ys) text x h =
    elim (cases_Bool (bytes_eq text (spell y))) [
      | inl same ↦
          (bytes_eq-Decides text (spell y)).0 same
          ∙ ap spell (same_Some y x (sym (cond-true (bytes_eq text (spell y)) (Some y) (first_spelled spell ys text) same) ∙ h))
      | inr other ↦ first_spelled_finds spell ys text x (sym (cond-false (bytes_eq text (spell y)) (Some y) (first_spelled spell ys text) other) ∙ h)
    ]

pub free_from_test : (c : ℕ) (text : List ℕ) → is_free c text ≡ true → IsFree c text
free_from_test c [] h = All-nil (λ b. (b == c) ≡ false)
free_from_test c (b ∷ text) h =
    let parts = and_parts (not (b == c)) (is_free c text) h in
    All-cons (λ y. (y == c) ≡ false) b text (not_true (b == c) parts.0) (free_from_test c text parts.1)

-- each value is read from its word, and no word has a blank in it
pub one_of_exact : {A : Type 0} (spell : A → List ℕ) (xs : List A) → ((x : A) → first_spelled spell xs (spell x) ≡ Some x) → ((x : A) → is_free 32 (spell x) ≡ true) → IsExact (one_of spell xs)
one_of_exact spell xs known free = record {
  finds = λ text x h. (first_spelled_finds spell xs text x h, tt);
  knows = λ x fits. known x;
  free = λ x fits. free_from_test 32 (spell x) (free x);
}
