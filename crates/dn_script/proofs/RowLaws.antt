-- The values of all fields, as a loop reads them.
use Rattle.std.proofs.Common.{true, false, ◌≡◌, ℕ, ◌+◌, List, [], ◌∷◌, ◌++◌, length, Result, Ok, Err, refl, sym, ap, ◌∙◌, arith, append_assoc, append-nil}
use Rattle.dn_io.specs.declared.cause.Cause.{Cause}
use Rattle.dn_script.specs.declared.flaw.Flaw.{Flaw}
use Rattle.dn_script.specs.declared.flaw.Flaw.TheVariants.{Range}
use Rattle.dn_wire.specs.declared.ids.Member.{Member}
use Rattle.dn_script.specs.Judged.{Judged, Group, judge, cause_at, member_in, is_among}
use Rattle.dn_script.specs.Script.{read_once}
use Rattle.dn_script.specs.Row.{◌>>=◌, in_field, take_judged, made, read_every}

abbrev pub with_front : {A : Type 0} → List A → Result (List A) Cause → Result (List A) Cause
with_front front read = made (λ xs. front ++ xs) read

abbrev done : {B : Type 0} → B → Result B Cause
done x = Ok x

ok_same : {B : Type 0} (x y : B) → done x ≡ done y → x ≡ y
ok_same x y h = cc

took : {A : Type 0} (n : ℕ) (read : Result A Flaw) (fields rest : List (List ℕ)) (x : A) → ◌>>=◌ {A = A} {B = A × List (List ℕ)} (in_field n read) (λ y. Ok (y, fields)) ≡ Ok (x, rest) → fields ≡ rest
took {A} n (Ok y) fields rest x h = ap (λ (p : A × List (List ℕ)). p.1) (ok_same (y, fields) (x, rest) h)
took {A} n (Err flaw) fields rest x h = cc h

pub taken_shorter : {A : Type 0} (f : Judged A) (n : ℕ) (fields rest : List (List ℕ)) (x : A) → take_judged f n fields ≡ Ok (x, rest) → length fields ≡ length rest + 1
taken_shorter f n [] rest x h = cc h
taken_shorter f n (text ∷ fields) rest x h = omega (arith, ap length (took n (judge f text) fields rest x h))

module _ {A : Type 0} (f : Judged A) where
  same : (r : Result (List A) Cause) → with_front [] r ≡ r
  same (Ok xs) = refl
  same (Err e) = refl

  pub begins : (n : ℕ) (fields : List (List ℕ)) → with_front [] (read_every f n fields) ≡ read_every f n fields
  begins n fields = same (read_every f n fields)

  moved : (front : List A) (x : A) (r : Result (List A) Cause) → with_front front (r >>= λ xs. Ok (x ∷ xs)) ≡ with_front (front ++ x ∷ []) r
  moved front x (Ok xs) = ap Ok (sym (append_assoc front (x ∷ []) xs))
  moved front x (Err e) = refl

  pub goes_on : (front : List A) (n : ℕ) (text : List ℕ) (fields rest : List (List ℕ)) (x : A) (total : Result (List A) Cause) → fields ≡ text ∷ rest → judge f text ≡ Ok x
      → with_front front (read_every f n fields) ≡ total → with_front (front ++ x ∷ []) (read_every f (n + 1) rest) ≡ total
  unfolding read_every
  goes_on front n text fields rest x total e h so_far =
      let one : with_front front (read_every f n fields) ≡ with_front (front ++ x ∷ []) (read_every f (n + 1) rest) = rw (e, h) (moved front x (read_every f (n + 1) rest)) in
      sym one ∙ so_far

  pub refused : (front : List A) (n : ℕ) (text : List ℕ) (fields rest : List (List ℕ)) (flaw : Flaw) (total : Result (List A) Cause) → fields ≡ text ∷ rest → judge f text ≡ Err flaw
      → with_front front (read_every f n fields) ≡ total → total ≡ Err (cause_at n flaw)
  unfolding read_every
  refused front n text fields rest flaw total e h so_far =
      let one : with_front front (read_every f n fields) ≡ Err (cause_at n flaw) = rw (e, h) refl in
      sym so_far ∙ one

  pub is_done : (front : List A) (n : ℕ) (fields : List (List ℕ)) (total : Result (List A) Cause) → fields ≡ [] → with_front front (read_every f n fields) ≡ total → total ≡ Ok front
  unfolding read_every
  is_done front n fields total e so_far =
      let one : with_front front (read_every f n fields) ≡ Ok front = rw e (ap Ok (append-nil front)) in
      sym so_far ∙ one

-- ---- members, each once

module _ (g : Group) where
  pub once_goes_on : (n : ℕ) (before : List Member) (text : List ℕ) (fields rest : List (List ℕ)) (m : Member) (total : Result (List Member) Cause) → fields ≡ text ∷ rest → judge (member_in g) text ≡ Ok m
      → is_among m before ≡ false → read_once g n before fields ≡ total → read_once g (n + 1) (before ++ m ∷ []) rest ≡ total
  unfolding read_once
  once_goes_on n before text fields rest m total e h other so_far =
      let one : read_once g n before fields ≡ read_once g (n + 1) (before ++ m ∷ []) rest = rw (e, h, other) refl in
      sym one ∙ so_far

  pub once_again : (n : ℕ) (before : List Member) (text : List ℕ) (fields rest : List (List ℕ)) (m : Member) (total : Result (List Member) Cause) → fields ≡ text ∷ rest → judge (member_in g) text ≡ Ok m
      → is_among m before ≡ true → read_once g n before fields ≡ total → total ≡ Err (cause_at n Range)
  unfolding read_once
  once_again n before text fields rest m total e h again so_far =
      let one : read_once g n before fields ≡ Err (cause_at n Range) = rw (e, h, again) refl in
      sym so_far ∙ one

  pub once_refused : (n : ℕ) (before : List Member) (text : List ℕ) (fields rest : List (List ℕ)) (flaw : Flaw) (total : Result (List Member) Cause) → fields ≡ text ∷ rest → judge (member_in g) text ≡ Err flaw
      → read_once g n before fields ≡ total → total ≡ Err (cause_at n flaw)
  unfolding read_once
  once_refused n before text fields rest flaw total e h so_far =
      let one : read_once g n before fields ≡ Err (cause_at n flaw) = rw (e, h) refl in
      sym so_far ∙ one

  pub once_done : (n : ℕ) (before : List Member) (fields : List (List ℕ)) (total : Result (List Member) Cause) → fields ≡ [] → read_once g n before fields ≡ total → total ≡ Ok before
  unfolding read_once
  once_done n before fields total e so_far =
      let one : read_once g n before fields ≡ Ok before = rw e refl in
      sym so_far ∙ one
