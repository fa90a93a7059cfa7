-- The lines of a signed list: what is read is spelled so, and what is spelled so is read.
use Rattle.std.proofs.Common.{◌≡◌, ℕ, List, [], ◌∷◌, length, Option, Some, None, Result, Ok, Err, IfOk, inl, inr, refl, sym, ap, subst, ◌∙◌, arith}
use Rattle.std.specs.Prelude.{codes, nat_le, slice_index}
use Rattle.std.specs.Str.{bytes_eq}
use Rattle.std.proofs.lemmas.Bool.{cases_Bool, cond-true, cond-false, leb-true, le-leb}
use Rattle.std.proofs.lemmas.Option.{none-some}
use Rattle.std.proofs.lemmas.Slice.Eq.{bytes_eq-Decides}
use Rattle.hex.specs.Hex.{IsBytes}
use Rattle.dn_lines.specs.Field.{Gives}
use Rattle.dn_lines.specs.declared.fault.LineFault.{LineFault}
use Rattle.dn_lines.specs.declared.fault.LineFault.TheVariants.{Grammar, NoMemory}
use Rattle.dn_lines.specs.Form.{spaced, fields_in, last, ◌▸◌}
use Rattle.dn_lines.specs.Fields.{long_number, bytes}
use Rattle.dn_lines.specs.Exact.{IsExactForm, IsFree}
use Rattle.std.specs.List.{AllByRecursion}
use Rattle.dn_lines.proofs.FormLaws.{last_exact, then_exact, only_exact, made_some, fields_of_spaced, spaced_of_fields}
use Rattle.dn_lines.proofs.FieldLaws.{long_number_exact, bytes_exact, free_from_test}
use Rattle.dn_notary.specs.declared.limits.TheConstants.{MAX_ENTRY}
use Rattle.dn_notary.specs.declared.sign_line.SignLine.{SignLine}
use Rattle.dn_notary.specs.Signed.{end_text, FitsSign, behind_word, sign_form, sign_line, read_sign, read_key, sign_text, key_text}

sign_form_exact : IsExactForm sign_form
sign_form_exact =
    only_exact (λ x. nat_le (length x.1.0) MAX_ENTRY) (long_number ▸ bytes ▸ last bytes)
    (then_exact long_number (bytes ▸ last bytes) long_number_exact (then_exact bytes (last bytes) bytes_exact (last_exact bytes bytes_exact)))

abbrev parts : SignLine → ℕ × (List ℕ × List ℕ)
parts s = (s.q, (s.entry, s.signature))

fits_form : (s : SignLine) → FitsSign s → sign_form.Fits (parts s)
fits_form s fits = (((omega arith, fits.number), (fits.entry_bytes, fits.signature_bytes)), le-leb (length s.entry) MAX_ENTRY fits.short)

form_fits : (x : ℕ × (List ℕ × List ℕ)) → sign_form.Fits x → FitsSign (sign_line x)
form_fits x f = record {
  number = f.0.0.1;
  entry_bytes = f.0.1.0;
  short = leb-true (length x.1.0) MAX_ENTRY f.1;
  signature_bytes = f.0.1.1;
}

-- what a reading behind a word found
word_found : {A : Type 0} (word : List ℕ) (read : List (List ℕ) → Option A) (fields : List (List ℕ)) (x : A) → behind_word word read fields ≡ Some x
    → (rest : List (List ℕ)) × (fields ≡ word ∷ rest) × (read rest ≡ Some x)
word_found word read [] x h = absurd (none-some x h)
word_found word read (first ∷ rest) x h =
    elim (cases_Bool (bytes_eq first word)) [
      | inl same ↦
          (rest, ap (λ (w : List ℕ). w ∷ rest) ((bytes_eq-Decides first word).0 same), sym (cond-true (bytes_eq first word) (read rest) None same) ∙ h)
      | inr other ↦ absurd (none-some x (sym (cond-false (bytes_eq first word) (read rest) None other) ∙ h))
    ]

word_known : {A : Type 0} (word : List ℕ) (read : List (List ℕ) → Option A) (rest : List (List ℕ)) → behind_word word read (word ∷ rest) ≡ read rest
word_known word read rest = cond-true (bytes_eq word word) (read rest) None ((bytes_eq-Decides word word).1 refl)

sign_found : (line : List ℕ) (s : SignLine) → behind_word (codes "sign") read_sign (fields_in line) ≡ Some s → FitsSign s × (line ≡ sign_text s)
unfolding read_sign
sign_found line s h =
    let w = word_found (codes "sign") read_sign (fields_in line) s h in
    let m = made_some sign_line (sign_form.read w.0) s w.2 in
    let f = sign_form_exact.finds w.0 m.0 m.1 in
    let text : line ≡ sign_text (sign_line m.0) =
    sym (spaced_of_fields line) ∙ ap spaced (w.1 ∙ ap (λ (r : List (List ℕ)). codes "sign" ∷ r) f.0) in
    subst (λ t. FitsSign t × (line ≡ sign_text t)) m.2 (form_fits m.0 f.1, text)

sign_known : (s : SignLine) → FitsSign s → behind_word (codes "sign") read_sign (fields_in (sign_text s)) ≡ Some s
unfolding read_sign
sign_known s fits =
    let fields = sign_form.spell (parts s) in
    let free : AllByRecursion (IsFree 32) (codes "sign" ∷ fields) =
    (free_from_test 32 (codes "sign") refl, sign_form_exact.free (parts s) (fits_form s fits)) in
    ap (behind_word (codes "sign") read_sign) (fields_of_spaced (codes "sign") fields free) ∙ word_known (codes "sign") read_sign fields
    ∙ rw (sign_form_exact.knows (parts s) (fits_form s fits)) refl

key_found : (line key : List ℕ) → behind_word (codes "key") read_key (fields_in line) ≡ Some key → IsBytes key × (line ≡ key_text key)
unfolding read_key
key_found line key h =
    let w = word_found (codes "key") read_key (fields_in line) key h in
    let f = (last_exact bytes bytes_exact).finds w.0 key w.2 in
    (f.1, sym (spaced_of_fields line) ∙ ap spaced (w.1 ∙ ap (λ (r : List (List ℕ)). codes "key" ∷ r) f.0))

key_known : (key : List ℕ) → IsBytes key → behind_word (codes "key") read_key (fields_in (key_text key)) ≡ Some key
unfolding read_key
key_known key fits =
    let fields = (last bytes).spell key in
    let free : AllByRecursion (IsFree 32) (codes "key" ∷ fields) = (free_from_test 32 (codes "key") refl, (last_exact bytes bytes_exact).free key fits) in
    ap (behind_word (codes "key") read_key) (fields_of_spaced (codes "key") fields free) ∙ word_known (codes "key") read_key fields
    ∙ (last_exact bytes bytes_exact).knows key fits

-- ---- what calls answer

pub gives_sign : (r : Result SignLine LineFault) (line : List ℕ) → Gives (λ x. x) r (behind_word (codes "sign") read_sign (fields_in line))
    → IfOk r (λ s. FitsSign s × (line ≡ sign_text s))
gives_sign (Ok s) line h = sign_found line s h
gives_sign (Err e) line h = tt

abbrev refused_sign : Result SignLine LineFault
refused_sign = Err Grammar

pub only_sign : (r : Result SignLine LineFault) (line : List ℕ) → Gives (λ x. x) r (behind_word (codes "sign") read_sign (fields_in line))
    → r ≡ refused_sign → (s : SignLine) → FitsSign s → line ≡ sign_text s → ⊥
only_sign r line h is s fits e =
    let none : behind_word (codes "sign") read_sign (fields_in line) ≡ None =
    subst (λ q. Gives (λ x. x) q (behind_word (codes "sign") read_sign (fields_in line))) is h in
    none-some s (sym none ∙ ap (λ (l : List ℕ). behind_word (codes "sign") read_sign (fields_in l)) e ∙ sign_known s fits)

pub no_key : (line key : List ℕ) → behind_word (codes "key") read_key (fields_in line) ≡ None → IsBytes key → line ≡ key_text key → ⊥
no_key line key none fits e =
    none-some key (sym none ∙ ap (λ (l : List ℕ). behind_word (codes "key") read_key (fields_in l)) e ∙ key_known key fits)

pub found_key : (line key : List ℕ) → behind_word (codes "key") read_key (fields_in line) ≡ Some key → IsBytes key × (line ≡ key_text key)
found_key line key h = key_found line key h

-- the key that a line spells is the one that is read
pub same_key : (line key other : List ℕ) → behind_word (codes "key") read_key (fields_in line) ≡ Some key → IsBytes other → line ≡ key_text other → key ≡ other
same_key line key other h fits e =
    let known = ap (λ (l : List ℕ). behind_word (codes "key") read_key (fields_in l)) e ∙ key_known other fits in
    let both : Some key ≡ Some other = sym h ∙ known in
    cc

-- a key's line that isn't read spells none
pub refused_key : (fault : LineFault) (read : Option (List ℕ)) → Gives {X = List ℕ} {Y = List ℕ} (λ x. x) (Err fault) read → fault ≡ Grammar → read ≡ None
refused_key Grammar read h is = h
refused_key NoMemory read h is = cc is

-- ---- a line is the spelling of one thing

pub one_sign : (s t : SignLine) → FitsSign s → FitsSign t → sign_text s ≡ sign_text t → s ≡ t
one_sign s t fits others e =
    let both : Some s ≡ Some t =
    sym (sign_known s fits) ∙ ap (λ (l : List ℕ). behind_word (codes "sign") read_sign (fields_in l)) e ∙ sign_known t others in
    cc

pub one_key : (key other : List ℕ) → IsBytes key → IsBytes other → key_text key ≡ key_text other → key ≡ other
one_key key other fits others e =
    let both : Some key ≡ Some other =
    sym (key_known key fits) ∙ ap (λ (l : List ℕ). behind_word (codes "key") read_key (fields_in l)) e ∙ key_known other others in
    cc

pub end_is_no_sign : (s : SignLine) → end_text ≡ sign_text s → ⊥
end_is_no_sign s e = let first : 101 ≡ 115 = ap (λ (l : List ℕ). slice_index l 0) e in absurd (omega (arith, first))
