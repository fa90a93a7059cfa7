-- Reading the values of all fields, as a loop does.
use Rattle.std.proofs.Common.{◌≡◌, ℕ, List, [], ◌∷◌, ◌++◌, Option, Some, None, refl, sym, ap, ◌∙◌, append_assoc, append-nil}
use Rattle.dn_lines.specs.Field.{◌>>=◌, made}
use Rattle.dn_lines.specs.Form.{read_each}

-- what was read before, and what is still read
abbrev pub with_front : {A : Type 0} → List A → Option (List A) → Option (List A)
with_front front rest = made (λ xs. front ++ xs) rest

module _ {A : Type 0} (read : List ℕ → Option A) where
  same : (o : Option (List A)) → with_front [] o ≡ o
  same (Some xs) = refl
  same None = refl

  pub begins : (fields : List (List ℕ)) → with_front [] (read_each read fields) ≡ read_each read fields
  begins fields = same (read_each read fields)

  moved : (front : List A) (x : A) (o : Option (List A)) → with_front front (o >>= λ xs. Some (x ∷ xs)) ≡ with_front (front ++ x ∷ []) o
  moved front x (Some xs) = ap Some (sym (append_assoc front (x ∷ []) xs))
  moved front x None = refl

  pub goes_on : (front : List A) (text : List ℕ) (fields rest : List (List ℕ)) (x : A) (total : Option (List A)) → fields ≡ text ∷ rest → read text ≡ Some x
      → with_front front (read_each read fields) ≡ total → with_front (front ++ x ∷ []) (read_each read rest) ≡ total
  unfolding read_each
  goes_on front text fields rest x total e h so_far =
      let one : with_front front (read_each read fields) ≡ with_front (front ++ x ∷ []) (read_each read rest) = rw (e, h) (moved front x (read_each read rest)) in
      sym one ∙ so_far

  pub refused : (front : List A) (text : List ℕ) (fields rest : List (List ℕ)) (total : Option (List A)) → fields ≡ text ∷ rest → read text ≡ None
      → with_front front (read_each read fields) ≡ total → total ≡ None
  unfolding read_each
  refused front text fields rest total e h so_far =
      let one : with_front front (read_each read fields) ≡ None = rw (e, h) refl in
      sym so_far ∙ one

  pub is_done : (front : List A) (fields : List (List ℕ)) (total : Option (List A)) → fields ≡ [] → with_front front (read_each read fields) ≡ total → total ≡ Some front
  unfolding read_each
  is_done front fields total e so_far =
      let one : with_front front (read_each read fields) ≡ Some front = rw e (ap Some (append-nil front)) in
      sym so_far ∙ one
