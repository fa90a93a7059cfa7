-- The law of a list, of rows and of a part inside a number of bytes.
use Rattle.std.proofs.Common.{◌≡◌, ℕ, zero, suc, ◌+◌, ◌≤◌, false, cond, eqb, ltb, List, [], ◌∷◌, ◌++◌, length, take, map, Ok, Err, refl, sym, ap, subst, ◌∙◌, append_assoc, arith}
use Rattle.std.specs.Int.{w32}
use Rattle.std.specs.List.{flat_map, AllByRecursion}
use Rattle.std.proofs.lemmas.Bool.{ltb-false, le-ltb, eqb-true}
use Rattle.std.proofs.lemmas.List.{length-append, length-take, append-nil, take_at, drop_at, nil_from_length}
use Rattle.std.proofs.lemmas.List.Concat.{flat_map-cons}
use Rattle.dn_wire.specs.Cursor.{Cursor, past}
use Rattle.dn_wire.specs.Fields.{inner_at}
use Rattle.dn_wire.specs.declared.reader.FieldFault.TheVariants as fields
use Rattle.dn_wire.specs.declared.ids.ClientId.{ClientId}
use Rattle.dn_record_types.specs.declared.fault.RecordFault.TheVariants.{Shape, Trailing}
use Rattle.dn_record_types.specs.Part.{◌>>=◌, Read, Part}
use Rattle.dn_record_types.specs.Fields.{read_inner, read_limited, spell_number, client_field}
use Rattle.dn_record_types.specs.Lists.{read_list, read_items, several, AscendFrom, Ascend, read_client, Row, read_row, read_rows, rows, spell_row, FitsRow, read_inside, inside}
use Rattle.dn_record_types.proofs.Laws.{IsBytes, IsBytes-take, bind_ok, not_refused, passed, ok_is, field_ok, Took, Took-then, Took-nothing, before, behind, Finds, Knows, IsExact}
use Rattle.dn_record_types.proofs.FieldLaws.{up_to_exact, took_front}

-- ---- lists whose items may set the floor of the next

-- each value fits at the floor that the one before it sets
abbrev pub FitFrom : {A : Type 0} → (ℕ → A → Type 0) → (A → ℕ) → ℕ → List A → Type 0
FitFrom Fits next floor [] = Unit {0}
FitFrom Fits next floor (x ∷ xs) = Fits floor x × FitFrom Fits next (next x) xs

module _ {A : Type 0} (item : ℕ → Cursor → Read A) (next : A → ℕ) (spell : A → List ℕ) (Fits : ℕ → A → Type 0) where
  pub list_finds : ((floor : ℕ) → Finds (item floor) spell (Fits floor)) → (n floor : ℕ) (c : Cursor) (x : List A) (d : Cursor) → IsBytes c.rest → read_list item next n floor c ≡ Ok (x, d)
      → Took c (flat_map spell x) d × (length x ≡ n) × FitFrom Fits next floor x
  unfolding read_list
  list_finds one zero floor c x d h e =
      subst (λ (y : List A × Cursor). Took c (flat_map spell y.0) y.1 × (length y.0 ≡ 0) × FitFrom Fits next floor y.0) (ok_is ([], c) (x, d) e) (Took-nothing c h, refl, tt)
  list_finds one (suc n) floor c x d h e =
      let a = bind_ok (item floor c) (λ first. read_list item next n (next first.0) first.1 >>= λ others. Ok (first.0 ∷ others.0, others.1)) (x, d) e in
      let b = bind_ok (read_list item next n (next a.0.0) a.0.1) (λ others. Ok (a.0.0 ∷ others.0, others.1)) (x, d) a.2 in
      let first = one floor c a.0.0 a.0.1 h a.1 in
      let second = list_finds one n (next a.0.0) a.0.1 b.0.0 b.0.1 first.0.bytes b.1 in
      let both = Took-then c (spell a.0.0) a.0.1 (flat_map spell b.0.0) b.0.1 first.0 second.0 in
      let it : List A × Cursor = (a.0.0 ∷ b.0.0, b.0.1) in
      subst (λ (y : List A × Cursor). Took c (flat_map spell y.0) y.1 × (length y.0 ≡ suc n) × FitFrom Fits next floor y.0) (ok_is it (x, d) b.2)
      (rw flat_map-cons both, ap suc second.1, (first.1, second.2))

  pub list_knows : ((floor : ℕ) → Knows (item floor) spell (Fits floor)) → (xs : List A) (floor at : ℕ) (rest : List ℕ) → FitFrom Fits next floor xs
      → read_list item next (length xs) floor (before at (flat_map spell xs) rest) ≡ Ok (xs, behind at (flat_map spell xs) rest)
  unfolding read_list
  list_knows one [] floor at rest fits = ap (λ (k : ℕ). Ok ([], record { at = k; rest = rest })) (omega arith)
  list_knows one (x ∷ xs) floor at rest fits =
      let regrouped : flat_map spell (x ∷ xs) ++ rest ≡ spell x ++ (flat_map spell xs ++ rest) = ap (λ (t : List ℕ). t ++ rest) (flat_map-cons spell x xs) ∙ append_assoc (spell x) (flat_map spell xs) rest in
      let long : length (flat_map spell (x ∷ xs)) ≡ length (spell x) + length (flat_map spell xs) = ap length (flat_map-cons spell x xs) ∙ length-append (spell x) (flat_map spell xs) in
      ap (λ (t : List ℕ). read_list item next (suc (length xs)) floor (record { at = at; rest = t })) regrouped
      ∙ rw (one floor x at (flat_map spell xs ++ rest) fits.0, list_knows one xs (next x) (at + length (spell x)) rest fits.1)
      (ap (λ (k : ℕ). Ok (x ∷ xs, record { at = k; rest = rest })) (omega (arith, long)))

-- ---- a list behind its number

fit_all : {A : Type 0} (Fits : A → Type 0) (floor : ℕ) (xs : List A) → FitFrom (λ _. Fits) (λ _. 0) floor xs → AllByRecursion Fits xs
fit_all Fits floor [] h = tt
fit_all Fits floor (x ∷ xs) h = (h.0, fit_all Fits 0 xs h.1)

all_fit : {A : Type 0} (Fits : A → Type 0) (floor : ℕ) (xs : List A) → AllByRecursion Fits xs → FitFrom (λ _. Fits) (λ _. 0) floor xs
all_fit Fits floor [] h = tt
all_fit Fits floor (x ∷ xs) h = (h.0, all_fit Fits 0 xs h.1)

pub several_exact : {A : Type 0} (count : Part ℕ) (p : Part A) → IsExact count → IsExact p → IsExact (several count p)
several_exact {A} count p ec ep = record {
  finds = λ c x d h e.
      let a = bind_ok (count.read c) (λ n. read_items p n.0 n.1) (x, d) e in
      let first = ec.finds c a.0.0 a.0.1 h a.1 in
      let second = list_finds (λ _. p.read) (λ _. 0) p.spell (λ _. p.Fits) (λ _. ep.finds) a.0.0 0 a.0.1 x d first.0.bytes a.2 in
      subst (λ (n : ℕ). Took c (count.spell n ++ flat_map p.spell x) d × (count.Fits n × AllByRecursion p.Fits x)) (sym second.1)
      (Took-then c (count.spell a.0.0) a.0.1 (flat_map p.spell x) d first.0 second.0, (first.1, fit_all p.Fits 0 x second.2));
  knows = λ x at rest fits.
      let text = flat_map p.spell x in
      rw (append_assoc (count.spell (length x)) text rest, ec.knows (length x) at (text ++ rest) fits.0, list_knows (λ _. p.read) (λ _. 0) p.spell (λ _. p.Fits) (λ _. ep.knows) x 0 (at + length (count.spell (length x))) rest (all_fit p.Fits 0 x fits.1), length-append (count.spell (length x)) text)
      (ap (λ (k : ℕ). Ok (x, record { at = k; rest = rest })) (omega arith));
}

-- ---- rows

client_finds : (floor : ℕ) → IsExact client_field → Finds (read_client floor) client_field.spell (λ i. client_field.Fits i × (floor ≤ i.0))
unfolding read_client
client_finds floor ec c x d h e =
    let a = bind_ok (client_field.read c) (λ i. cond (ltb i.0.0 floor) (Err (Shape c.at)) (Ok i)) (x, d) e in
    let g = not_refused (ltb a.0.0.0 floor) (Shape c.at) a.0 (x, d) a.2 in
    let first = ec.finds c a.0.0 a.0.1 h a.1 in
    subst (λ (y : ClientId × Cursor). Took c (client_field.spell y.0) y.1 × (client_field.Fits y.0 × (floor ≤ y.0.0))) g.1 (first.0, (first.1, ltb-false _ _ g.0))

client_knows : (floor : ℕ) → IsExact client_field → Knows (read_client floor) client_field.spell (λ i. client_field.Fits i × (floor ≤ i.0))
unfolding read_client
client_knows floor ec x at rest fits = rw (ec.knows x at rest fits.0, le-ltb x.0 floor fits.1) refl

-- what is asked of a row at a floor
abbrev pub RowFits : {B : Type 0} → Row B → ℕ → B → Type 0
RowFits w floor x = (client_field.Fits (w.key x) × (floor ≤ (w.key x).0)) × w.part.Fits (w.rest x)

-- a row is made of its client and the rest
pub record IsRow {B : Type 0} (w : Row B) : Type 0 where
  pub key : (i : ClientId) (x : w.Rest) → w.key (w.make i x) ≡ i
  pub rest : (i : ClientId) (x : w.Rest) → w.rest (w.make i x) ≡ x
  pub again : (b : B) → w.make (w.key b) (w.rest b) ≡ b

row_finds : {B : Type 0} (w : Row B) → IsRow w → IsExact client_field → IsExact w.part → (floor : ℕ) → Finds (read_row w floor) (spell_row w) (RowFits w floor)
unfolding read_row
row_finds {B} w row ec ep floor c x d h e =
    let a = bind_ok (read_client floor c) (λ i. w.part.read i.1 >>= λ x. Ok (w.make i.0 x.0, x.1)) (x, d) e in
    let b = bind_ok (w.part.read a.0.1) (λ x. Ok (w.make a.0.0 x.0, x.1)) (x, d) a.2 in
    let first = client_finds floor ec c a.0.0 a.0.1 h a.1 in
    let second = ep.finds a.0.1 b.0.0 b.0.1 first.0.bytes b.1 in
    let both = Took-then c (client_field.spell a.0.0) a.0.1 (w.part.spell b.0.0) b.0.1 first.0 second.0 in
    let it : B × Cursor = (w.make a.0.0 b.0.0, b.0.1) in
    subst (λ (y : B × Cursor). Took c (spell_row w y.0) y.1 × RowFits w floor y.0) (ok_is it (x, d) b.2)
    (subst (λ (i : ClientId). Took c (client_field.spell i ++ w.part.spell (w.rest (w.make a.0.0 b.0.0))) b.0.1 × ((client_field.Fits i × (floor ≤ i.0)) × w.part.Fits (w.rest (w.make a.0.0 b.0.0)))) (sym (row.key a.0.0 b.0.0))
    (subst (λ (r : w.Rest). Took c (client_field.spell a.0.0 ++ w.part.spell r) b.0.1 × ((client_field.Fits a.0.0 × (floor ≤ a.0.0.0)) × w.part.Fits r)) (sym (row.rest a.0.0 b.0.0)) (both, (first.1, second.1))))

row_knows : {B : Type 0} (w : Row B) → IsRow w → IsExact client_field → IsExact w.part → (floor : ℕ) → Knows (read_row w floor) (spell_row w) (RowFits w floor)
unfolding read_row
row_knows {B} w row ec ep floor x at rest fits =
    let i = client_field.spell (w.key x) in
    let t = w.part.spell (w.rest x) in
    rw (append_assoc i t rest, client_knows floor ec (w.key x) at (t ++ rest) fits.0, ep.knows (w.rest x) (at + length i) rest fits.1, length-append i t)
    (ap (λ (b : B). Ok (b, record { at = (at + length i) + length t; rest = rest })) (row.again x) ∙ ap (λ (k : ℕ). Ok (x, record { at = k; rest = rest })) (omega arith))

rows_apart : {B : Type 0} (w : Row B) (floor : ℕ) (xs : List B) → FitFrom (RowFits w) (λ x. (w.key x).0 + 1) floor xs → AscendFrom floor (map w.key xs) × AllByRecursion (FitsRow w) xs
rows_apart w floor [] h = (tt, tt)
rows_apart w floor (x ∷ xs) h =
    let others = rows_apart w ((w.key x).0 + 1) xs h.1 in
    ((h.0.0.1, others.0), ((h.0.0.0, h.0.1), others.1))

rows_joined : {B : Type 0} (w : Row B) (floor : ℕ) (xs : List B) → AscendFrom floor (map w.key xs) → AllByRecursion (FitsRow w) xs → FitFrom (RowFits w) (λ x. (w.key x).0 + 1) floor xs
rows_joined w floor [] ascend h = tt
rows_joined w floor (x ∷ xs) ascend h = (((h.0.0, ascend.0), h.0.1), rows_joined w ((w.key x).0 + 1) xs ascend.1 h.1)

pub rows_exact : {B : Type 0} (w : Row B) → IsRow w → IsExact client_field → IsExact w.part → IsExact (rows w)
unfolding read_rows
rows_exact {B} w row ec ep =
    let el = up_to_exact 512 (omega arith) in
    record {
      finds = λ c x d h e.
          let a = bind_ok (read_limited 512 c) (λ n. read_rows w n.0 n.1) (x, d) e in
          let first = el.finds c a.0.0 a.0.1 h a.1 in
          let second = list_finds (read_row w) (λ x. (w.key x).0 + 1) (spell_row w) (RowFits w) (row_finds w row ec ep) a.0.0 0 a.0.1 x d first.0.bytes a.2 in
          let apart = rows_apart w 0 x second.2 in
          subst (λ (n : ℕ). Took c (spell_number w32 n ++ flat_map (spell_row w) x) d × ((n ≤ 512) × Ascend (map w.key x) × AllByRecursion (FitsRow w) x)) (sym second.1)
          (Took-then c (spell_number w32 a.0.0) a.0.1 (flat_map (spell_row w) x) d first.0 second.0, (first.1, apart.0, apart.1));
      knows = λ x at rest fits.
          let text = flat_map (spell_row w) x in
          let count = spell_number w32 (length x) in
          rw (append_assoc count text rest, el.knows (length x) at (text ++ rest) fits.0, list_knows (read_row w) (λ x. (w.key x).0 + 1) (spell_row w) (RowFits w) (row_knows w row ec ep) x 0 (at + length count) rest (rows_joined w 0 x fits.1 fits.2), length-append count text)
          (ap (λ (k : ℕ). Ok (x, record { at = k; rest = rest })) (omega arith));
    }

-- ---- inside a number of bytes

inner_found : (n : ℕ) (c : Cursor) (x : Cursor) (d : Cursor) → IsBytes c.rest → read_inner n c ≡ Ok (x, d) → (x ≡ record { at = c.at; rest = take n c.rest }) × Took c (take n c.rest) d × (length (take n c.rest) ≡ n)
unfolding read_inner
inner_found n c x d h e =
    let g = not_refused (ltb (length c.rest) n) (fields.Cut c.at) (record { at = c.at; rest = take n c.rest }, past c n) (x, d) (field_ok (inner_at n c) (x, d) e) in
    let le : n ≤ length c.rest = ltb-false _ _ g.0 in
    (sym (ap (λ (p : Cursor × Cursor). p.0) g.1), subst (λ (y : Cursor). Took c (take n c.rest) y) (ap (λ (p : Cursor × Cursor). p.1) g.1) (took_front c n le h), omega (arith, length-take n c.rest))

inner_known : (text : List ℕ) (at : ℕ) (rest : List ℕ) → read_inner (length text) (before at text rest) ≡ Ok (record { at = at; rest = text }, behind at text rest)
unfolding read_inner
inner_known text at rest =
    let enough : ltb (length (text ++ rest)) (length text) ≡ false = le-ltb _ _ (omega (arith, length-append text rest)) in
    rw (enough, take_at text rest (length text) refl, drop_at text rest (length text) refl) refl

pub inside_exact : {A : Type 0} (count : Part ℕ) (p : Part A) → IsExact count → IsExact p → IsExact (inside count p)
unfolding read_inside
inside_exact {A} count p ec ep = record {
  finds = λ c x d h e.
      let a = bind_ok (count.read c) (λ n. read_inner n.0 n.1 >>= λ inner. p.read inner.0 >>= λ x. cond (eqb (length x.1.rest) 0) (Ok (x.0, inner.1)) (Err (Trailing x.1.at))) (x, d) e in
      let b = bind_ok (read_inner a.0.0 a.0.1) (λ inner. p.read inner.0 >>= λ x. cond (eqb (length x.1.rest) 0) (Ok (x.0, inner.1)) (Err (Trailing x.1.at))) (x, d) a.2 in
      let f = bind_ok (p.read b.0.0) (λ x. cond (eqb (length x.1.rest) 0) (Ok (x.0, b.0.1)) (Err (Trailing x.1.at))) (x, d) b.2 in
      let g = passed (eqb (length f.0.1.rest) 0) (Trailing f.0.1.at) (f.0.0, b.0.1) (x, d) f.2 in
      let first = ec.finds c a.0.0 a.0.1 h a.1 in
      let inner = inner_found a.0.0 a.0.1 b.0.0 b.0.1 first.0.bytes b.1 in
      let text = take a.0.0 a.0.1.rest in
      let its_bytes : IsBytes b.0.0.rest = subst (λ (y : Cursor). IsBytes y.rest) (sym inner.0) (IsBytes-take a.0.0 a.0.1.rest first.0.bytes) in
      let value = ep.finds b.0.0 f.0.0 f.0.1 its_bytes f.1 in
      let nothing : f.0.1.rest ≡ [] = nil_from_length f.0.1.rest (eqb-true _ _ g.0) in
      let whole : text ≡ p.spell f.0.0 = sym (ap (λ (y : Cursor). y.rest) inner.0) ∙ value.0.parts ∙ ap (λ (t : List ℕ). p.spell f.0.0 ++ t) nothing ∙ append-nil (p.spell f.0.0) in
      let long : a.0.0 ≡ length (p.spell f.0.0) = sym inner.2 ∙ ap length whole in
      let both : Took c (count.spell a.0.0 ++ p.spell f.0.0) b.0.1 = Took-then c (count.spell a.0.0) a.0.1 (p.spell f.0.0) b.0.1 first.0 (subst (λ (t : List ℕ). Took a.0.1 t b.0.1) whole inner.1) in
      subst (λ (y : A × Cursor). Took c (count.spell (length (p.spell y.0)) ++ p.spell y.0) y.1 × (count.Fits (length (p.spell y.0)) × p.Fits y.0)) g.1
      (subst (λ (n : ℕ). Took c (count.spell n ++ p.spell f.0.0) b.0.1 × (count.Fits n × p.Fits f.0.0)) long (both, (first.1, value.1)));
  knows = λ x at rest fits.
      let text = p.spell x in
      let n = count.spell (length text) in
      let alone : p.read (record { at = at + length n; rest = text }) ≡ Ok (x, record { at = (at + length n) + length text; rest = [] }) =
      ap (λ (t : List ℕ). p.read (record { at = at + length n; rest = t })) (sym (append-nil text)) ∙ ep.knows x (at + length n) [] fits.1 in
      rw (append_assoc n text rest, ec.knows (length text) at (text ++ rest) fits.0, inner_known text (at + length n) rest, alone, length-append n text)
      (ap (λ (k : ℕ). Ok (x, record { at = k; rest = rest })) (omega arith));
}
