-- What is read is spelled so, and what is spelled so is read: the law of a part, and how it goes
-- from the parts to what is put together of them.
use Rattle.std.proofs.Common.{◌≡◌, ℕ, ◌+◌, Bool, true, false, cond, List, [], ◌++◌, length, take, drop, Result, Ok, Err, refl, sym, ap, subst, ◌∙◌, append_assoc, arith, inl, inr}
use Rattle.std.proofs.lemmas.Bool.{cases_lt}
use Rattle.std.proofs.lemmas.List.{length-append, get_or-drop, get_or-take, get_or_past, length-take}
use Rattle.dn_wire.specs.Cursor.{Cursor}
use Rattle.dn_wire.specs.declared.reader.FieldFault.{FieldFault}
use Rattle.dn_record_types.specs.declared.fault.RecordFault.{RecordFault}
pub use Rattle.dn_record_types.specs.Exact.{IsBytes, Took, before, behind, Finds, Knows, IsExact}
use Rattle.dn_record_types.specs.Part.{◌>>=◌, Part, field, ◌⋈◌, led_by, seen}

pub IsBytes-drop : (n : ℕ) (bytes : List ℕ) → IsBytes bytes → IsBytes (drop n bytes)
IsBytes-drop n bytes h i = rw get_or-drop (h (n + i))

pub IsBytes-take : (n : ℕ) (bytes : List ℕ) → IsBytes bytes → IsBytes (take n bytes)
IsBytes-take n bytes h i =
    elim (cases_lt i n) [
      | inl lt ↦ rw (get_or-take n bytes i 0 lt) (h i)
      | inr le ↦ rw (get_or_past (take n bytes) i 0 (omega (arith, length-take n bytes))) (omega arith)
    ]

-- the value of a step that did not fail
pub bind_ok : {A B : Type 0} (r : Result A RecordFault) (f : A → Result B RecordFault) (y : B) → (r >>= f) ≡ Ok y → (x : A) × (r ≡ Ok x) × (f x ≡ Ok y)
bind_ok (Ok x) f y e = (x, refl, e)
bind_ok (Err d) f y e = absurd cc

-- a test that did not fail
abbrev pub where_true : {A E : Type 0} → Bool → A → E → Result A E
where_true b x d = cond b (Ok x) (Err d)

abbrev pub where_false : {A E : Type 0} → Bool → E → A → Result A E
where_false b d x = cond b (Err d) (Ok x)

pub passed : {A E : Type 0} (b : Bool) (d : E) (x y : A) → where_true b x d ≡ Ok y → (b ≡ true) × (x ≡ y)
passed true d x y e = (refl, cc)
passed false d x y e = absurd cc

pub not_refused : {A E : Type 0} (b : Bool) (d : E) (x y : A) → where_false b d x ≡ Ok y → (b ≡ false) × (x ≡ y)
not_refused true d x y e = absurd cc
not_refused false d x y e = (refl, cc)

abbrev done : {A : Type 0} → A → Result A RecordFault
done x = Ok x

pub ok_is : {A : Type 0} (x y : A) → done x ≡ done y → x ≡ y
ok_is x y e = cc

pub field_ok : {A : Type 0} (r : Result (A × Cursor) FieldFault) (y : A × Cursor) → field r ≡ Ok y → r ≡ Ok y
field_ok (Ok x) y e = cc
field_ok (Err f) y e = absurd cc

pub Took-then : (a : Cursor) (x : List ℕ) (b : Cursor) (y : List ℕ) (c : Cursor) → Took a x b → Took b y c → Took a (x ++ y) c
Took-then a x b y c p q = record {
  parts = p.parts ∙ ap (λ (t : List ℕ). x ++ t) q.parts ∙ sym (append_assoc x y c.rest);
  moved = q.moved ∙ (rw (p.moved, length-append x y) (omega arith));
  bytes = q.bytes;
}

pub Took-nothing : (c : Cursor) → IsBytes c.rest → Took c [] c
Took-nothing c h = record { parts = refl; moved = omega arith; bytes = h }

pub both : {A B : Type 0} (p : Part A) (q : Part B) → IsExact p → IsExact q → IsExact (p ⋈ q)
both {A} {B} p q ep eq = record {
  finds = λ c x d h e.
      let a = bind_ok (p.read c) (λ x. q.read x.1 >>= λ y. Ok ((x.0, y.0), y.1)) (x, d) e in
      let b = bind_ok (q.read a.0.1) (λ y. Ok ((a.0.0, y.0), y.1)) (x, d) a.2 in
      let first = ep.finds c a.0.0 a.0.1 h a.1 in
      let second = eq.finds a.0.1 b.0.0 b.0.1 first.0.bytes b.1 in
      let it : (A × B) × Cursor = ((a.0.0, b.0.0), b.0.1) in
      subst (λ (y : (A × B) × Cursor). Took c (p.spell y.0.0 ++ q.spell y.0.1) y.1 × (p.Fits y.0.0 × q.Fits y.0.1)) (ok_is it (x, d) b.2)
      (Took-then c (p.spell a.0.0) a.0.1 (q.spell b.0.0) b.0.1 first.0 second.0, (first.1, second.1));
  knows = λ x at rest fits.
      let one = ep.knows x.0 at (q.spell x.1 ++ rest) fits.0 in
      let two = eq.knows x.1 (at + length (p.spell x.0)) rest fits.1 in
      rw (append_assoc (p.spell x.0) (q.spell x.1) rest, one, two, length-append (p.spell x.0) (q.spell x.1)) (ap (λ (k : ℕ). Ok (x, record { at = k; rest = rest })) (omega arith));
}

pub led : {A B : Type 0} (p : Part A) (q : A → Part B) → IsExact p → ((a : A) → IsExact (q a)) → IsExact (led_by p q)
led {A} {B} p q ep eq = record {
  finds = λ c x d h e.
      let a = bind_ok (p.read c) (λ x. (q x.0).read x.1 >>= λ y. Ok ((x.0, y.0), y.1)) (x, d) e in
      let b = bind_ok ((q a.0.0).read a.0.1) (λ y. Ok ((a.0.0, y.0), y.1)) (x, d) a.2 in
      let first = ep.finds c a.0.0 a.0.1 h a.1 in
      let second = (eq a.0.0).finds a.0.1 b.0.0 b.0.1 first.0.bytes b.1 in
      let it : (A × B) × Cursor = ((a.0.0, b.0.0), b.0.1) in
      subst (λ (y : (A × B) × Cursor). Took c (p.spell y.0.0 ++ (q y.0.0).spell y.0.1) y.1 × (p.Fits y.0.0 × (q y.0.0).Fits y.0.1)) (ok_is it (x, d) b.2)
      (Took-then c (p.spell a.0.0) a.0.1 ((q a.0.0).spell b.0.0) b.0.1 first.0 second.0, (first.1, second.1));
  knows = λ x at rest fits.
      let one = ep.knows x.0 at ((q x.0).spell x.1 ++ rest) fits.0 in
      let two = (eq x.0).knows x.1 (at + length (p.spell x.0)) rest fits.1 in
      rw (append_assoc (p.spell x.0) ((q x.0).spell x.1) rest, one, two, length-append (p.spell x.0) ((q x.0).spell x.1)) (ap (λ (k : ℕ). Ok (x, record { at = k; rest = rest })) (omega arith));
}

pub like : {A B : Type 0} (to : A → B) (back : B → A) (p : Part A) → ((a : A) → p.Fits a → back (to a) ≡ a) → ((b : B) → to (back b) ≡ b) → IsExact p → IsExact (seen to back p)
like {A} {B} to back p there again ep = record {
  finds = λ c x d h e.
      let a = bind_ok (p.read c) (λ y. Ok (to y.0, y.1)) (x, d) e in
      let first = ep.finds c a.0.0 a.0.1 h a.1 in
      let it : B × Cursor = (to a.0.0, a.0.1) in
      subst (λ (y : B × Cursor). Took c (p.spell (back y.0)) y.1 × p.Fits (back y.0)) (ok_is it (x, d) a.2)
      (subst (λ (y : A). Took c (p.spell y) a.0.1 × p.Fits y) (sym (there a.0.0 first.1)) first);
  knows = λ x at rest fits. rw (ep.knows (back x) at rest fits) (ap (λ (b : B). Ok (b, record { at = at + length (p.spell (back x)); rest = rest })) (again x));
}
