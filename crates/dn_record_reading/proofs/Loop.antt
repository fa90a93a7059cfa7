-- Reading values one after the other, as a loop does.
use Rattle.std.proofs.Common.{◌≡◌, ℕ, suc, ◌-◌, ◌+◌, ◌≤◌, ◌<◌, List, [], ◌∷◌, ◌++◌, Result, Ok, Err, refl, sym, ap, ◌∙◌, append_assoc, arith}
use Rattle.std.proofs.lemmas.List.{append-nil}
use Rattle.dn_wire.specs.Cursor.{Cursor}
use Rattle.dn_record_types.specs.declared.fault.RecordFault.{RecordFault}
use Rattle.dn_record_types.specs.declared.fault.RecordFault.TheVariants as faults
use Rattle.dn_record_types.specs.Part.{◌>>=◌, Read, Fails}
use Rattle.dn_record_types.specs.Lists.{read_list}

-- what was read before, and what is still read
abbrev pub with_front : {A : Type 0} → List A → Read (List A) → Read (List A)
with_front front read = read >>= λ x. Ok (front ++ x.0, x.1)

-- a fault of the one is a fault of the other
pub Fails-along : {A B : Type 0} (e : RecordFault) (r : Result A RecordFault) (s : Result B RecordFault) → ((f : RecordFault) → r ≡ Err f → s ≡ Err f) → Fails e r → Fails e s
Fails-along faults.NoMemory r s along h = tt
Fails-along (faults.Cut at) r s along h = along (faults.Cut at) h
Fails-along (faults.Kind b) r s along h = along (faults.Kind b) h
Fails-along (faults.Over at limit) r s along h = along (faults.Over at limit) h
Fails-along (faults.Shape at) r s along h = along (faults.Shape at) h
Fails-along (faults.Trailing at) r s along h = along (faults.Trailing at) h

module _ {A : Type 0} (item : ℕ → Cursor → Read A) (next : A → ℕ) where
  plain : (read : Read (List A)) → with_front [] read ≡ read
  plain (Ok x) = refl
  plain (Err f) = refl

  regroup : (front : List A) (x : A) (read : Read (List A)) → with_front front (read >>= λ y. Ok (x ∷ y.0, y.1)) ≡ with_front (front ++ x ∷ []) read
  regroup front x (Ok y) = ap (λ (xs : List A). Ok (xs, y.1)) (simp append_assoc)
  regroup front x (Err f) = refl

  pub begins : (count floor : ℕ) (c : Cursor) → with_front [] (read_list item next (count - 0) floor c) ≡ read_list item next count floor c
  begins count floor c =
      let k : count - 0 ≡ count = omega arith in
      rw k (plain (read_list item next count floor c))

  pub goes_on : (front : List A) (count i floor : ℕ) (c : Cursor) (x : A) (d : Cursor) (total : Read (List A)) → i < count → item floor c ≡ Ok (x, d)
      → with_front front (read_list item next (count - i) floor c) ≡ total → with_front (front ++ x ∷ []) (read_list item next (count - (i + 1)) (next x) d) ≡ total
  unfolding read_list
  goes_on front count i floor c x d total lt h so_far =
      let k : count - i ≡ suc (count - (i + 1)) = omega arith in
      let one : with_front front (read_list item next (count - i) floor c) ≡ with_front (front ++ x ∷ []) (read_list item next (count - (i + 1)) (next x) d) = rw (k, h) (regroup front x (read_list item next (count - (i + 1)) (next x) d)) in
      sym one ∙ so_far

  pub ends : (e : RecordFault) (front : List A) (count i floor : ℕ) (c : Cursor) (total : Read (List A)) → i < count → Fails e (item floor c)
      → with_front front (read_list item next (count - i) floor c) ≡ total → Fails e total
  unfolding read_list
  ends e front count i floor c total lt h so_far =
      let k : count - i ≡ suc (count - (i + 1)) = omega arith in
      Fails-along e (item floor c) total
      (λ f bad.
      let one : with_front front (read_list item next (count - i) floor c) ≡ Err f = rw (k, bad) refl in
      sym so_far ∙ one)
      h

  pub is_done : (front : List A) (count i floor : ℕ) (c : Cursor) (total : Read (List A)) → count ≤ i → with_front front (read_list item next (count - i) floor c) ≡ total → total ≡ Ok (front, c)
  unfolding read_list
  is_done front count i floor c total le so_far =
      let k : count - i ≡ 0 = omega arith in
      let one : with_front front (read_list item next (count - i) floor c) ≡ Ok (front, c) = rw k (ap (λ (xs : List A). Ok (xs, c)) (append-nil front)) in
      sym so_far ∙ one
