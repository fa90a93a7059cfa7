-- The values that `collect` takes.
use Rattle.std.proofs.Common.{◌≡◌, ◌≢◌, ◌⊎◌, ℕ, suc, ◌+◌, ◌<◌, ◌≤◌, List, [], ◌∷◌, ◌++◌, length, get_or, map, refl, sym, ap, subst, ◌∙◌, arith, append_assoc, append-nil, Bool, cond, nat_lt, eq-eqb, ne_eqb, inl, inr, ⊎_elim, length-append, ◌-◌, Option, Some, None}
use Rattle.std.specs.List.Sorted.{IsStrictlyIncreasing}
use Rattle.std.proofs.lemmas.List.{map-append, get_or_append_left}
use Rattle.std.proofs.Math.Seq.{get_or-append_seam}
use mathlib.Core.Logic.{dite}
use mathlib.Core.Option.{some, none}
use native.Mathlib.Decide.{ℕ_discrete, dec_le}
use lib.ListN.{get_elem?}
use Rattle.atomic_table.specs.Table.{step, rest}
use Rattle.dn_counts.specs.Counts.{total, equal, times}
use Rattle.dn_gate.specs.Rule.{At, view, many, is_mark, puts, took, IsOnly, Takes}
use Rattle.dn_gate.specs.Order.{with_number, in_order}
use Rattle.dn_gate.specs.Collected.{named, clients_of, took_all, KnowsPuts, IsLeftOrTaken}
use Rattle.dn_gate.specs.declared.view.View.{View}
use Rattle.dn_wire.specs.declared.ids.ClientId.{ClientId}
use Rattle.dn_counts.proofs.Sums.{hit, miss, times-append}
use Rattle.dn_gate.proofs.Marks.{once_most, once_yes, once_no, many_le, many_more}

module _ {T : Type 0} where
  with_number-hit : (i c : ℕ) (z : T) (xs : List (ℕ × T)) → c ≡ i → with_number i ((c, z) ∷ xs) ≡ (c, z) ∷ with_number i xs
  with_number-hit i c z xs e = ap (λ (b : Bool). cond b ((c, z) ∷ with_number i xs) (with_number i xs)) (eq-eqb c i e)

  with_number-miss : (i c : ℕ) (z : T) (xs : List (ℕ × T)) → c ≢ i → with_number i ((c, z) ∷ xs) ≡ with_number i xs
  with_number-miss i c z xs e = ap (λ (b : Bool). cond b ((c, z) ∷ with_number i xs) (with_number i xs)) (ne_eqb c i e)

  pub none_with : (i : ℕ) (xs : List (ℕ × T)) → total (λ p. equal p.0 i) xs ≡ 0 → with_number i xs ≡ []
  none_with i [] h = refl
  none_with i ((c, z) ∷ xs) h = dite (ℕ_discrete c i)
      (λ e. absurd (omega (arith, h, hit c i e)))
      (λ ne. with_number-miss i c z xs ne ∙ none_with i xs (omega (arith, h, miss c i ne)))

  pub one_with : (i : ℕ) (xs : List (ℕ × T)) (x : T) → total (λ p. equal p.0 i) xs ≡ 1 → ((k : ℕ) (y : T) → get_elem? xs k ≡ some (i, y) → y ≡ x) → with_number i xs ≡ (i, x) ∷ []
  one_with i [] x h only = absurd (omega arith)
  one_with i ((c, z) ∷ xs) x h only = dite (ℕ_discrete c i)
      (λ e.
      let is : z ≡ x = only 0 z (ap (λ (k : ℕ). some (k, z)) e) in
      with_number-hit i c z xs e ∙ (λ j. (e j, is j) ∷ none_with i xs (omega (arith, h, hit c i e)) j))
      (λ ne. with_number-miss i c z xs ne ∙ one_with i xs x (omega (arith, h, miss c i ne)) (λ k y f. only (suc k) y f))

  pub in_order-more : (i : ℕ) (xs : List (ℕ × T)) → in_order (i + 1) xs ≡ in_order i xs ++ with_number i xs
  in_order-more i xs = let e : i + 1 ≡ suc i = omega arith in ap (λ (k : ℕ). in_order k xs) e

  -- the values so far, and those of one client more
  pub values_more : (v : View T) (i : ℕ) (m : At T) (xs ys : List (ClientId × T)) → IsLeftOrTaken v i m xs ys → length v.numbers ≡ v.passes → xs ≡ map named (in_order i v.values) → ys ≡ map named (in_order (i + 1) v.values)
  values_more v i m xs ys t all is = ⊎_elim
      (λ l. l.1 ∙ is ∙ ap (map named) (sym (in_order-more i v.values ∙ ap (λ l'. in_order i v.values ++ l') (none_with i v.values (l.2 all)) ∙ append-nil (in_order i v.values))))
      (λ r. r.2 ∙ ap (λ l. l ++ named (i, r.0) ∷ []) is ∙ sym (map-append named (in_order i v.values) ((i, r.0) ∷ []))
      ∙ ap (map named) (sym (in_order-more i v.values ∙ ap (λ l'. in_order i v.values ++ l') (one_with i v.values r.0 (r.4 all) r.3))))
      t

  -- the clients so far
  pub took_none : (m : At T) (xs : List (ClientId × T)) → xs ≡ [] → m.1 ≡ [] → m ≡ (took_all m.0 (clients_of xs), [])
  took_none m xs empty e = λ j. (view m.0.passes m.0.clients m.0.before m.0.numbers m.0.claim m.0.unmarked m.0.draws m.0.values m.0.repeats m.0.closing m.0.looked ((sym (append-nil m.0.taken) ∙ ap (λ l. m.0.taken ++ clients_of l) (sym empty)) j) m.0.right m.0.refused m.0.closings, e j)

  pub took_more : (v u : View T) (i : ℕ) (m : At T) (xs ys : List (ClientId × T)) → u ≡ took_all v (clients_of xs) → IsLeftOrTaken u i m xs ys → m ≡ (took_all v (clients_of ys), [])
  took_more v u i m xs ys is t = ⊎_elim
      (λ l. l.0 ∙ ap (λ w. (w, [])) is ∙ ap (λ c. (took_all v (clients_of c), [])) (sym l.1))
      (λ r. r.1 ∙ ap (λ w. (took w i, [])) is
      ∙ (λ j. (view v.passes v.clients v.before v.numbers v.claim v.unmarked v.draws v.values v.repeats v.closing v.looked ((append_assoc v.taken (clients_of xs) (i ∷ []) ∙ ap (λ l. v.taken ++ l) (sym (map-append (λ p. p.0.0) xs (named (i, r.0) ∷ []))) ∙ ap (λ c. v.taken ++ clients_of c) (sym r.2)) j) v.right v.refused v.closings, [])))
      t

  -- where the word wasn't marked, and where it was
  pub left_out : (slots i found : ℕ) (m n : At T) → Takes (step slots (i + 1) 0 0 none) m found n → found ≢ 3 → (n ≡ m) × KnowsPuts m.0 i 0 × (total (is_mark i) m.0.looked ≡ 0)
  left_out slots i found m n told ne =
      let back : i + 1 - 1 ≡ i = omega arith in (
        told.0 ne,
        (λ all. ap (λ (c : ℕ). puts c m.0) (sym back) ∙ sym (told.2 all) ∙ ap (λ b. cond {A = ℕ} b 1 0) (ne_eqb found 3 ne)),
        dite (dec_le (total (is_mark i) m.0.looked) 0)
            (λ z. omega arith)
            (λ p. absurd (ne (told.3 (omega (arith, p, ap (λ (c : ℕ). total (is_mark c) m.0.looked) back))))),
      )

  pub taken_out : (slots i found : ℕ) (m n : At T) → Takes (step slots (i + 1) 0 0 none) m found n → found ≡ 3 → (x : T) × (n ≡ (took m.0 i, (i, Some x) ∷ m.1)) × IsOnly m.0 i x × KnowsPuts m.0 i 1
  taken_out slots i found m n told three =
      let back : i + 1 - 1 ≡ i = omega arith in
      let t = told.1 three in (
        t.0,
        t.1 ∙ ap (λ (c : ℕ). (took m.0 c, (c, Some t.0) ∷ m.1)) back,
        (λ k y e. t.2 k y (e ∙ ap (λ (c : ℕ). some (c, y)) (sym back))),
        (λ all. ap (λ (c : ℕ). puts c m.0) (sym back) ∙ sym (told.2 all) ∙ ap (λ b. cond {A = ℕ} b 1 0) (eq-eqb found 3 three)),
      )

  -- the seat with the slot, after it was emptied, and after it went home
  pub out_again : (i : ℕ) (x : T) (m n : At T) → n ≡ (took m.0 i, (i, Some x) ∷ m.1) → n.1 ≡ (i, Some x) ∷ rest n.1
  out_again i x m n e = ap (λ (q : At T). q.1) e ∙ ap (λ l. (i, Some x) ∷ l) (sym (ap (λ (q : At T). rest q.1) e))

  pub emptied : (i : ℕ) (x : T) (m n e : At T) → n ≡ (took m.0 i, (i, Some x) ∷ m.1) → m.1 ≡ [] → e ≡ (n.0, (i, None) ∷ rest n.1) → e ≡ (took m.0 i, (i, None) ∷ [])
  emptied i x m n e is none_held d = d ∙ (λ j. ((is j).0, (i, None) ∷ rest (is j).1)) ∙ ap (λ l. (took m.0 i, (i, None) ∷ l)) none_held

  abbrev head_value : List (ℕ × Option T) → Option T
  head_value [] = None
  head_value (c ∷ cs) = c.1

  pub same_value : (i : ℕ) (x : T) (r : Option T) (l k : List (ℕ × Option T)) → l ≡ (i, Some x) ∷ rest l → l ≡ (i, r) ∷ k → Some x ≡ r
  same_value i x r l k e d = ap head_value (sym e ∙ d)

  pub given_back : (i : ℕ) (x : T) (m e q : At T) → e ≡ (took m.0 i, (i, None) ∷ []) → q ≡ (e.0, rest e.1) → q ≡ (took m.0 i, [])
  given_back i x m e q is d = d ∙ (λ j. ((is j).0, rest (is j).1))

  pub in_taken : (i : ℕ) (m e : At T) → e ≡ (took m.0 i, (i, None) ∷ []) → 0 < times i e.0.taken
  in_taken i m e is = omega (arith, ap (λ (q : At T). times i q.0.taken) is, times-append i m.0.taken (i ∷ []), hit i i refl)

pub below_push : (xs : List ℕ) (i : ℕ) → ((k : ℕ) → k < length xs → get_or xs k 0 < i) → (k : ℕ) → k < length (xs ++ i ∷ []) → get_or (xs ++ i ∷ []) k 0 < i + 1
below_push xs i h k lt = dite (dec_le (length xs) k)
    (λ le. let e : k ≡ length xs = omega (arith, length-append xs (i ∷ [])) in omega (arith, ap (λ j. get_or (xs ++ i ∷ []) j 0) e, get_or-append_seam xs i [] 0))
    (λ gt. omega (arith, get_or_append_left xs (i ∷ []) 0 k (omega arith), h k (omega arith)))

pub increasing_push : (xs : List ℕ) (i : ℕ) → ((k : ℕ) → k < length xs → get_or xs k 0 < i) → IsStrictlyIncreasing xs → IsStrictlyIncreasing (xs ++ i ∷ [])
increasing_push xs i h up k lt = dite (dec_le (length xs) (k + 1))
    (λ le.
    let e : k + 1 ≡ length xs = omega (arith, length-append xs (i ∷ [])) in
    omega (arith, ap (λ j. get_or (xs ++ i ∷ []) j 0) e, get_or-append_seam xs i [] 0, get_or_append_left xs (i ∷ []) 0 k (omega arith), h k (omega arith)))
    (λ gt. omega (arith, get_or_append_left xs (i ∷ []) 0 k (omega arith), get_or_append_left xs (i ∷ []) 0 (k + 1) (omega arith), up k (omega arith)))

pub times_above : (xs : List ℕ) (i : ℕ) → ((k : ℕ) → k < length xs → get_or xs k 0 < i) → times i xs ≡ 0
times_above [] i h = refl
times_above (x ∷ xs) i h = omega (arith, times-append i (x ∷ []) xs, miss x i (λ e. absurd (omega (arith, h 0 (omega arith)))), times_above xs i (λ k lt. h (suc k) (omega arith)))

module _ {T : Type 0} where
  clients_more : (u : View T) (i : ℕ) (m : At T) (xs ys : List (ClientId × T)) → IsLeftOrTaken u i m xs ys → (clients_of ys ≡ clients_of xs) ⊎ (clients_of ys ≡ clients_of xs ++ i ∷ [])
  clients_more u i m xs ys t = ⊎_elim (λ l. inl (ap clients_of l.1)) (λ r. inr (ap clients_of r.2 ∙ map-append (λ p. p.0.0) xs (named (i, r.0) ∷ []))) t

  pub few_more : (u : View T) (i n : ℕ) (m : At T) (xs ys : List (ClientId × T)) → IsLeftOrTaken u i m xs ys → length xs ≤ n → length ys ≤ n + 1
  few_more u i n m xs ys t h = ⊎_elim (λ l. omega (arith, ap length l.1)) (λ r. omega (arith, ap length r.2, length-append xs (named (i, r.0) ∷ []))) t

  pub below_more' : (u : View T) (i : ℕ) (m : At T) (xs ys : List (ClientId × T)) → IsLeftOrTaken u i m xs ys → ((k : ℕ) → k < length (clients_of xs) → get_or (clients_of xs) k 0 < i) → (k : ℕ) → k < length (clients_of ys) → get_or (clients_of ys) k 0 < i + 1
  below_more' u i m xs ys t h = ⊎_elim
      (λ e. subst (λ l. (k : ℕ) → k < length l → get_or l k 0 < i + 1) (sym e) (λ k lt. omega (arith, h k lt)))
      (λ e. subst (λ l. (k : ℕ) → k < length l → get_or l k 0 < i + 1) (sym e) (below_push (clients_of xs) i h))
      (clients_more u i m xs ys t)

  pub order_more : (u : View T) (i : ℕ) (m : At T) (xs ys : List (ClientId × T)) → IsLeftOrTaken u i m xs ys → ((k : ℕ) → k < length (clients_of xs) → get_or (clients_of xs) k 0 < i) → IsStrictlyIncreasing (clients_of xs) → IsStrictlyIncreasing (clients_of ys)
  order_more u i m xs ys t h up = ⊎_elim (λ e. subst IsStrictlyIncreasing (sym e) up) (λ e. subst IsStrictlyIncreasing (sym e) (increasing_push (clients_of xs) i h up)) (clients_more u i m xs ys t)

  pub whole_more : (v u : View T) (i : ℕ) (cs : List ℕ) (m : At T) (xs ys : List (ClientId × T)) → u ≡ took_all v cs → IsLeftOrTaken u i m xs ys → length v.numbers ≡ v.passes → xs ≡ map named (in_order i v.values) → ys ≡ map named (in_order (i + 1) v.values)
  whole_more v u i cs m xs ys is t all e = values_more (took_all v cs) i m xs ys (subst (λ w. IsLeftOrTaken w i m xs ys) is t) all e

  -- each client whose word was found marked before is among those so far
  pub full_more : (v u : View T) (i : ℕ) (cs : List ℕ) (m : At T) (xs ys : List (ClientId × T)) → u ≡ took_all v cs → IsLeftOrTaken u i m xs ys → many (λ j. total (is_mark j) v.looked) i ≤ length xs → many (λ j. total (is_mark j) v.looked) (i + 1) ≤ length ys
  full_more v u i cs m xs ys is t h =
      let f : ℕ → ℕ = λ j. total (is_mark j) v.looked in ⊎_elim
      (λ l. omega (arith, h, ap length l.1, many_more f i, once_no (f i) (ap (λ (w : View T). total (is_mark i) w.looked) (sym is) ∙ l.3)))
      (λ r. omega (arith, h, ap length r.2, length-append xs (named (i, r.0) ∷ []), many_more f i, once_most (nat_lt 0 (f i))))
      t

  -- the values so far are of so many clients
  pub counted_more : (u : View T) (i : ℕ) (m : At T) (xs ys : List (ClientId × T)) → IsLeftOrTaken u i m xs ys → length xs ≤ many (λ j. times j (clients_of xs)) i → length ys ≤ many (λ j. times j (clients_of ys)) (i + 1)
  counted_more u i m xs ys t h = ⊎_elim
      (λ l. subst (λ (zs : List (ClientId × T)). length zs ≤ many (λ j. times j (clients_of zs)) (i + 1)) (sym l.1) (omega (arith, h, many_more (λ j. times j (clients_of xs)) i)))
      (λ r.
      let g : ℕ → ℕ = λ j. times j (clients_of ys) in
      let e : clients_of ys ≡ clients_of xs ++ i ∷ [] = ap clients_of r.2 ∙ map-append (λ p. p.0.0) xs (named (i, r.0) ∷ []) in
      let more : (j : ℕ) → times j (clients_of ys) ≡ times j (clients_of xs) + times j (i ∷ []) = λ j. ap (times j) e ∙ times-append j (clients_of xs) (i ∷ []) in
      let fewer = many_le (λ j. times j (clients_of xs)) g (λ j. omega (arith, more j)) i in
      omega (arith, h, fewer, ap length r.2, length-append xs (named (i, r.0) ∷ []), many_more g i, once_yes (g i) (omega (arith, more i, hit i i refl))))
      t
