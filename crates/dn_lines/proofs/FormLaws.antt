-- The law of a form: how it goes from fields to lines.
use Rattle.std.proofs.Common.{◌≡◌, ℕ, Bool, true, false, List, [], ◌∷◌, ◌++◌, map, Option, Some, None, inl, inr, refl, sym, ap, subst, ◌∙◌}
use Rattle.std.specs.Prelude.{◌==◌}
use Rattle.std.specs.List.{AllByRecursion}
use Rattle.std.specs.Str.{bytes_eq}
use Rattle.std.proofs.lemmas.Bool.{cases_Bool, cond-true, cond-false, eq-eqb, eqb-true}
use Rattle.std.proofs.lemmas.List.Elements.{All-head, All-tail}
use Rattle.std.proofs.lemmas.Slice.Eq.{bytes_eq-Decides}
use Rattle.std.proofs.lemmas.Option.{same_Some, none-some, cond_some, some_pair_parts}
use Rattle.std.proofs.lemmas.List.Splits.{slice_split_at, slice_split_none, join_with_byte-slice_split}
use Rattle.dn_lines.specs.Field.{Field, ◌>>=◌, made, cut, longer}
use Rattle.dn_lines.specs.Form.{Form, take_field, at_end, nothing, last, ◌▸◌, read_each, each, shaped, spaced, fields_in, tested, only, Kind, of_kind, no_other}
pub use Rattle.dn_lines.specs.Exact.{IsFree, IsExact, IsExactForm}

-- ---- the fields of a line

pub first_field : (line first rest : List ℕ) → line ≡ first ++ 32 ∷ rest → IsFree 32 first → fields_in line ≡ first ∷ fields_in rest
first_field line first rest e free = rw e (slice_split_at (λ b. b == 32) first 32 rest free refl)

pub only_field : (line : List ℕ) → IsFree 32 line → fields_in line ≡ line ∷ []
only_field line free = slice_split_none (λ b. b == 32) line free

-- fields without blanks are those of the line that they make
pub fields_of_spaced : (first : List ℕ) (fields : List (List ℕ)) → AllByRecursion (IsFree 32) (first ∷ fields) → fields_in (spaced (first ∷ fields)) ≡ first ∷ fields
fields_of_spaced first [] free = only_field first free.0
fields_of_spaced first (next ∷ fields) free =
    first_field (spaced (first ∷ next ∷ fields)) first (spaced (next ∷ fields)) refl free.0
    ∙ ap (λ (l : List (List ℕ)). first ∷ l) (fields_of_spaced next fields free.1)

-- a line is made of its fields
pub spaced_of_fields : (line : List ℕ) → spaced (fields_in line) ≡ line
spaced_of_fields line = join_with_byte-slice_split 32 line

-- ---- steps of reading

pub bind_some : {A B : Type 0} (o : Option A) (f : A → Option B) (y : B) → o >>= f ≡ Some y → (x : A) × (o ≡ Some x) × (f x ≡ Some y)
bind_some (Some x) f y h = (x, refl, h)
bind_some None f y h = absurd (none-some y h)

pub made_some : {A B : Type 0} (to : A → B) (o : Option A) (y : B) → made to o ≡ Some y → (x : A) × (o ≡ Some x) × (to x ≡ y)
made_some to (Some x) y h = (x, refl, same_Some (to x) y h)
made_some to None y h = absurd (none-some y h)

-- the first field was read
pub record Took {A : Type 0} (f : Field A) (fields : List (List ℕ)) (x : A) (rest : List (List ℕ)) : Type 0 where
  pub spelled : fields ≡ f.spell x ∷ rest
  pub fits : f.Fits x

pub field_taken : {A : Type 0} (f : Field A) → IsExact f → (fields : List (List ℕ)) (x : A) (rest : List (List ℕ)) → take_field f fields ≡ Some (x, rest) → Took f fields x rest
field_taken f ef [] x rest h = absurd (none-some (x, rest) h)
field_taken {A} f ef (text ∷ fields) x rest h =
    let a = bind_some (f.read text) (λ y. Some (y, fields)) (x, rest) h in
    let found = ef.finds text a.0 a.1 in
    let it : A × List (List ℕ) = (a.0, fields) in
    subst (λ (y : A × List (List ℕ)). Took f (text ∷ fields) y.0 y.1) (same_Some it (x, rest) a.2)
    (record { spelled = ap (λ (t : List ℕ). t ∷ fields) found.0; fits = found.1 })

pub ended : (fields : List (List ℕ)) (x : Unit {0}) → at_end fields ≡ Some x → fields ≡ []
ended [] x h = refl
ended (text ∷ fields) x h = absurd (none-some x h)

-- ---- forms

pub nothing_exact : IsExactForm nothing
nothing_exact = record {
  finds = λ fields x h. (ended fields x h, tt);
  knows = λ x fits. refl;
  free = λ x fits. tt;
}

pub last_exact : {A : Type 0} (f : Field A) → IsExact f → IsExactForm (last f)
last_exact {A} f ef = record {
  finds = λ fields x h.
      let a = bind_some (take_field f fields) (λ y. at_end y.1 >>= λ z. Some y.0) x h in
      let d = bind_some (at_end a.0.1) (λ z. Some a.0.0) x a.2 in
      let t = field_taken f ef fields a.0.0 a.0.1 a.1 in
      subst (λ (y : A). (fields ≡ f.spell y ∷ []) × f.Fits y) (same_Some a.0.0 x d.2)
      (t.spelled ∙ ap (λ (r : List (List ℕ)). f.spell a.0.0 ∷ r) (ended a.0.1 d.0 d.1), t.fits);
  knows = λ x fits. rw (ef.knows x fits) refl;
  free = λ x fits. (ef.free x fits, tt);
}

pub then_exact : {A B : Type 0} (f : Field A) (p : Form B) → IsExact f → IsExactForm p → IsExactForm (f ▸ p)
then_exact {A} {B} f p ef ep = record {
  finds = λ fields x h.
      let a = bind_some (take_field f fields) (λ y. p.read y.1 >>= λ z. Some (y.0, z)) x h in
      let b = bind_some (p.read a.0.1) (λ z. Some (a.0.0, z)) x a.2 in
      let t = field_taken f ef fields a.0.0 a.0.1 a.1 in
      let r = ep.finds a.0.1 b.0 b.1 in
      let it : A × B = (a.0.0, b.0) in
      subst (λ (y : A × B). (fields ≡ f.spell y.0 ∷ p.spell y.1) × (f.Fits y.0 × p.Fits y.1)) (same_Some it x b.2)
      (t.spelled ∙ ap (λ (l : List (List ℕ)). f.spell a.0.0 ∷ l) r.0, (t.fits, r.1));
  knows = λ x fits. rw (ef.knows x.0 fits.0, ep.knows x.1 fits.1) refl;
  free = λ x fits. (ef.free x.0 fits.0, ep.free x.1 fits.1);
}

each_finds : {A : Type 0} (f : Field A) → IsExact f → (fields : List (List ℕ)) (xs : List A) → read_each f.read fields ≡ Some xs → (fields ≡ map f.spell xs) × AllByRecursion f.Fits xs
unfolding read_each
each_finds f ef [] xs h = subst (λ ys. ([] ≡ map f.spell ys) × AllByRecursion f.Fits ys) (same_Some [] xs h) (refl, tt)
each_finds f ef (text ∷ fields) xs h =
    let a = bind_some (f.read text) (λ x. read_each f.read fields >>= λ ys. Some (x ∷ ys)) xs h in
    let b = bind_some (read_each f.read fields) (λ ys. Some (a.0 ∷ ys)) xs a.2 in
    let one = ef.finds text a.0 a.1 in
    let rest = each_finds f ef fields b.0 b.1 in
    subst (λ ys. (text ∷ fields ≡ map f.spell ys) × AllByRecursion f.Fits ys) (same_Some (a.0 ∷ b.0) xs b.2)
    (ap (λ (t : List ℕ). t ∷ fields) one.0 ∙ ap (λ (r : List (List ℕ)). f.spell a.0 ∷ r) rest.0, (one.1, rest.1))

each_knows : {A : Type 0} (f : Field A) → IsExact f → (xs : List A) → AllByRecursion f.Fits xs → read_each f.read (map f.spell xs) ≡ Some xs
unfolding read_each
each_knows f ef [] fits = refl
each_knows f ef (x ∷ xs) fits = rw (ef.knows x fits.0, each_knows f ef xs fits.1) refl

each_free : {A : Type 0} (f : Field A) → IsExact f → (xs : List A) → AllByRecursion f.Fits xs → AllByRecursion (IsFree 32) (map f.spell xs)
each_free f ef [] fits = tt
each_free f ef (x ∷ xs) fits = (ef.free x fits.0, each_free f ef xs fits.1)

pub each_exact : {A : Type 0} (f : Field A) → IsExact f → IsExactForm (each f)
each_exact f ef = record { finds = each_finds f ef; knows = each_knows f ef; free = each_free f ef }

pub shaped_exact : {A B : Type 0} (to : A → B) (back : B → A) (p : Form A) → ((a : A) → back (to a) ≡ a) → ((b : B) → to (back b) ≡ b) → IsExactForm p → IsExactForm (shaped to back p)
shaped_exact {A} {B} to back p there again ep = record {
  finds = λ fields x h.
      let a = made_some to (p.read fields) x h in
      let r = ep.finds fields a.0 a.1 in
      subst (λ (b : B). (fields ≡ p.spell (back b)) × p.Fits (back b)) a.2
      (subst (λ (y : A). (fields ≡ p.spell y) × p.Fits y) (sym (there a.0)) r);
  knows = λ x fits. rw (ep.knows (back x) fits) (ap Some (again x));
  free = λ x fits. ep.free (back x) fits;
}

pub only_exact : {A : Type 0} (test : A → Bool) (p : Form A) → IsExactForm p → IsExactForm (only test p)
only_exact {A} test p ep = record {
  finds = λ fields x h.
      let a = bind_some (p.read fields) (tested test) x h in
      let c = cond_some (test a.0) a.0 x a.2 in
      let r = ep.finds fields a.0 a.1 in
      subst (λ (y : A). (fields ≡ p.spell y) × (p.Fits y × (test y ≡ true))) c.1 (r.0, (r.1, c.0));
  knows = λ x fits. rw (ep.knows x fits.0, fits.1) refl;
  free = λ x fits. ep.free x fits.0;
}

-- ---- kinds of lines

-- what is read as a line of this kind is good for its fields
abbrev pub IsKind : {B : Type 0} → (B → List (List ℕ) → Type 0) → Kind B → Type 0
IsKind {B} Good k = (fields : List (List ℕ)) (x : B) → k.read fields ≡ Some x → Good x (k.word ∷ fields)

pub kind_found : {A B : Type 0} (p : Form A) (to : A → B) (Good : B → List (List ℕ) → Type 0) (word : List ℕ) → IsExactForm p
    → ((a : A) → p.Fits a → Good (to a) (word ∷ p.spell a))
    → (fields : List (List ℕ)) (x : B) → made to (p.read fields) ≡ Some x → Good x (word ∷ fields)
kind_found {A} {B} p to Good word ep good fields x h =
    let a = made_some to (p.read fields) x h in
    let r = ep.finds fields a.0 a.1 in
    subst (λ (b : B). Good b (word ∷ fields)) a.2
    (subst (λ (l : List (List ℕ)). Good (to a.0) (word ∷ l)) (sym r.0) (good a.0 r.1))

-- the same of a line of one of some kinds, or of what else it may be
abbrev pub Found : {B : Type 0} → (B → List (List ℕ) → Type 0) → (List ℕ → List (List ℕ) → Option B) → Type 0
Found {B} Good read = (word : List ℕ) (fields : List (List ℕ)) (x : B) → read word fields ≡ Some x → Good x (word ∷ fields)

pub of_kind_found : {B : Type 0} (Good : B → List (List ℕ) → Type 0) (kinds : List (Kind B)) (other : List ℕ → List (List ℕ) → Option B)
    → AllByRecursion (IsKind Good) kinds → Found Good other → Found Good (of_kind kinds other)
of_kind_found Good [] other all rest word fields x h = rest word fields x h
of_kind_found Good (k ∷ kinds) other all rest word fields x h =
    elim (cases_Bool (bytes_eq word k.word)) [
      | inl same ↦
          subst (λ (w : List ℕ). Good x (w ∷ fields)) (sym ((bytes_eq-Decides word k.word).0 same))
          (all.0 fields x (sym (cond-true (bytes_eq word k.word) (k.read fields) (of_kind kinds other word fields) same) ∙ h))
      | inr differs ↦ of_kind_found Good kinds other all.1 rest word fields x (sym (cond-false (bytes_eq word k.word) (k.read fields) (of_kind kinds other word fields) differs) ∙ h)
    ]

pub nothing_found : {B : Type 0} (Good : B → List (List ℕ) → Type 0) → Found Good no_other
nothing_found Good word fields x h = absurd (none-some x h)

-- ---- cuts

pub cut_of_parts : (c : ℕ) (a b : List ℕ) → IsFree c a → cut c (a ++ c ∷ b) ≡ Some (a, b)
unfolding cut
cut_of_parts c [] b free = rw (eq-eqb c c refl) refl
cut_of_parts c (x ∷ a) b free =
    rw (All-head (λ y. (y == c) ≡ false) x a free, cut_of_parts c a b (All-tail (λ y. (y == c) ≡ false) x a free)) refl

pub cut_none : (c : ℕ) (a : List ℕ) → IsFree c a → cut c a ≡ None
unfolding cut
cut_none c [] free = refl
cut_none c (x ∷ a) free =
    rw (All-head (λ y. (y == c) ≡ false) x a free, cut_none c a (All-tail (λ y. (y == c) ≡ false) x a free)) refl

pub cut_parts : (c : ℕ) (text a b : List ℕ) → cut c text ≡ Some (a, b) → text ≡ a ++ c ∷ b
unfolding cut
cut_parts c [] a b h = absurd (none-some (a, b) h)
cut_parts c (x ∷ text) a b h =
    elim (cases_Bool (x == c)) [
      | inl same ↦
          let parts = some_pair_parts [] a text b (sym (cond-true (x == c) (Some ([], text)) (made (longer x) (cut c text)) same) ∙ h) in
          ap (λ (y : ℕ). y ∷ text) (eqb-true x c same) ∙ (ap (λ (l : List ℕ). l ++ c ∷ text) parts.0 ∙ ap (λ (l : List ℕ). a ++ c ∷ l) parts.1)
      | inr other ↦
          let m = made_some (longer x) (cut c text) (a, b) (sym (cond-false (x == c) (Some ([], text)) (made (longer x) (cut c text)) other) ∙ h) in
          let rest = cut_parts c text m.0.0 m.0.1 m.1 in
          let front : x ∷ m.0.0 ≡ a = ap (λ (p : List ℕ × List ℕ). p.0) m.2 in
          let back : m.0.1 ≡ b = ap (λ (p : List ℕ × List ℕ). p.1) m.2 in
          ap (λ (l : List ℕ). x ∷ l) rest ∙ (ap (λ (l : List ℕ). l ++ c ∷ m.0.1) front ∙ ap (λ (l : List ℕ). a ++ c ∷ l) back)
    ]
