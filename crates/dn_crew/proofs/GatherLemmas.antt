-- What passes did that were joined into one.
use Rattle.std.proofs.Common.{◌≡◌, ℕ, zero, suc, ◌+◌, ◌<◌, ◌≤◌, ◌≢◌, List, [], ◌∷◌, ◌++◌, length, map, Bool, true, false, cond, ◌==◌, refl, sym, ap, subst, ◌∙◌, arith, None, Some, Option, ◌⊎◌, inl, inr, eq-eqb, append_assoc, append-nil, length-append}
use Rattle.std.specs.List.{filter}
use Rattle.std.proofs.lemmas.Bool.{ne_eqb}
use Rattle.std.proofs.lemmas.List.{map-append}
use Rattle.std.proofs.lemmas.List.Elements.{filter-append}
use Rattle.dn_counts.specs.Counts.{total}
use Rattle.dn_counts.specs.Numbers.{first_some}
use Rattle.dn_counts.proofs.Sums.{total-append}
use Rattle.dn_gate.specs.Order.{with_number, in_order, IsMerge}
use Rattle.dn_gate.specs.Pass.{GateId, PassView, IsReady}
use Rattle.dn_wire.specs.declared.ids.ClientId.{ClientId}
use Rattle.dn_crew.specs.Race.{client_of}
use Rattle.dn_crew.specs.declared.sharing.Drawn.{Drawn}
use Rattle.dn_crew.specs.Shares.{IsShare, IsCloser, IsGathered, shown, recorded, put_by, is_included}
use Rattle.dn_crew.proofs.Totals.{total-map}

module _ {A : Type 0} where
  pub total-merged : (g : A → ℕ) (zs xs ys : List A) → IsMerge zs xs ys → total g zs ≡ total g xs + total g ys
  total-merged g [] xs ys m = omega (arith, ap (total g) m.0, ap (total g) m.1)
  total-merged g (z ∷ zs) xs ys (inl m) = omega (arith, ap (total g) m.1, total-merged g zs m.0 ys m.2)
  total-merged g (z ∷ zs) xs ys (inr m) = omega (arith, ap (total g) m.1, total-merged g zs xs m.0 m.2)

-- repeats of pass j are all under its number
with_own : (j : ℕ) (f : ℕ → ℕ) (ns : List ℕ) → with_number j (map (λ n. (j, f n)) ns) ≡ map (λ n. (j, f n)) ns
with_own j f [] = refl
with_own j f (n ∷ ns) = rw (eq-eqb j j refl) (ap (λ l. (j, f n) ∷ l) (with_own j f ns))

with_other : (i j : ℕ) (f : ℕ → ℕ) (ns : List ℕ) → j ≢ i → with_number i (map (λ n. (j, f n)) ns) ≡ []
with_other i j f [] ne = refl
with_other i j f (n ∷ ns) ne = rw (ne_eqb j i ne) (with_other i j f ns ne)

-- what is numbered j adds nothing below j
in_order_before : (m j : ℕ) (f : ℕ → ℕ) (xs : List (ℕ × ℕ)) (ns : List ℕ) → m ≤ j → in_order m (xs ++ map (λ n. (j, f n)) ns) ≡ in_order m xs
in_order_before zero j f xs ns le = refl
in_order_before (suc m) j f xs ns le =
    let ne : j ≢ m = omega arith in
    let w : with_number m (xs ++ map (λ n. (j, f n)) ns) ≡ with_number m xs = filter-append (λ p. p.0 == m) xs (map (λ n. (j, f n)) ns) ∙ ap (λ l. with_number m xs ++ l) (with_other m j f ns ne) ∙ append-nil _ in
    ap (λ l. l ++ with_number m (xs ++ map (λ n. (j, f n)) ns)) (in_order_before m j f xs ns (omega arith)) ∙ ap (λ l. in_order m xs ++ l) w

in_order_more : (j : ℕ) (f : ℕ → ℕ) (xs : List (ℕ × ℕ)) (ns : List ℕ) → in_order j xs ≡ xs → with_number j xs ≡ []
    → in_order (j + 1) (xs ++ map (λ n. (j, f n)) ns) ≡ xs ++ map (λ n. (j, f n)) ns
in_order_more j f xs ns whole none =
    let ys : List (ℕ × ℕ) = map (λ n. (j, f n)) ns in
    let s : in_order (j + 1) (xs ++ ys) ≡ in_order j (xs ++ ys) ++ with_number j (xs ++ ys) = rw (Rattle.std.proofs.Common.add-one j) refl in
    let w : with_number j (xs ++ ys) ≡ ys = filter-append (λ p. p.0 == j) xs ys ∙ ap (λ l. l ++ with_number j ys) none ∙ with_own j f ns in
    s ∙ ap (λ l. in_order j (xs ++ ys) ++ l) w ∙ ap (λ l. l ++ ys) (in_order_before j j f xs ns (omega arith) ∙ whole)

below_more' : (i j : ℕ) (f : ℕ → ℕ) (xs : List (ℕ × ℕ)) (ns : List ℕ) → j + 1 ≤ i → with_number i xs ≡ [] → with_number i (xs ++ map (λ n. (j, f n)) ns) ≡ []
below_more' i j f xs ns le none =
    let ne : j ≢ i = omega arith in
    filter-append (λ p. p.0 == i) xs (map (λ n. (j, f n)) ns) ∙ ap (λ l. l ++ with_number i (map (λ n. (j, f n)) ns)) none ∙ with_other i j f ns ne

abbrev second : ℕ × ℕ → ℕ
second p = p.1

map_second : (j : ℕ) (f : ℕ → ℕ) (ns : List ℕ) → map second (map (λ n. (j, f n)) ns) ≡ map f ns
map_second j f [] = refl
map_second j f (n ∷ ns) = ap (λ l. f n ∷ l) (map_second j f ns)

first_none : (a b : Option ℕ) → b ≡ None → first_some a b ≡ a
first_none None b e = e
first_none (Some n) b e = refl

-- the closer alone
pub begins : (gate : GateId) (list : List (ClientId × ℕ)) (W : ℕ) (closing : Option ℕ) (refused : List ℕ) (p : PassView ℕ) (draws : List Drawn) (repeats : List ℕ)
    → IsCloser gate closing refused p → draws ≡ [] → repeats ≡ [] → IsGathered gate list W 0 closing refused p draws repeats
begins gate list W closing refused p draws repeats c ed er = record {
  gate_is = c.gate_is;
  ready = c.ready;
  count = c.one;
  closing_is = c.closing_is;
  refused_is = c.refused_is;
  draws_are = λ g. ap (total (λ d. g (shown d))) c.nothing.0 ∙ sym (ap (total (λ d. g (recorded list d))) ed);
  repeats_are = ap (map (λ r. r.1)) c.nothing.2 ∙ sym (ap (map (client_of list)) er);
  in_turn = sym c.nothing.2;
  below = λ n _. ap (with_number n) c.nothing.2;
  values_are = c.nothing.1 ∙ sym (ap (λ l. map (put_by list) (filter (λ d. is_included d.told) l)) ed);
  all = λ h. rw ed (rw er refl);
}

module _ (gate : GateId) (list : List (ClientId × ℕ)) (W j : ℕ) (closing : Option ℕ) (refused : List ℕ) where
  -- one share more
  pub gathered : (p o q : PassView ℕ) (draws more all : List Drawn) (repeats others rest : List ℕ)
      → IsGathered gate list W j closing refused p draws repeats → IsShare gate list W j o more others
      → q.gate ≡ p.gate → IsReady q → q.numbers ≡ p.numbers ++ o.numbers → IsMerge q.draws p.draws o.draws
      → q.values ≡ p.values ++ o.values → q.repeats ≡ p.repeats ++ o.repeats → q.closing ≡ first_some p.closing o.closing → q.refused ≡ p.refused ++ o.refused
      → all ≡ draws ++ more → rest ≡ repeats ++ others
      → IsGathered gate list W (j + 1) closing refused q all rest
  gathered p o q draws more all repeats others rest h s qg qready qn qd qv qr qc qf ea er =
      let ro = s.did.repeats_are in
      let rq : q.repeats ≡ p.repeats ++ map (λ n. (j, client_of list n)) others = qr ∙ ap (λ l. p.repeats ++ l) ro in
      record {
        gate_is = qg ∙ h.gate_is;
        ready = qready;
        count = omega (arith, ap length qn, length-append p.numbers o.numbers, ap length s.numbers, h.count);
        closing_is = qc ∙ first_none p.closing o.closing s.open_still.0 ∙ h.closing_is;
        refused_is = qf ∙ ap (λ l. p.refused ++ l) s.open_still.1 ∙ append-nil _ ∙ h.refused_is;
        draws_are = λ g.
            let one = total-merged (λ d. g (shown d)) q.draws p.draws o.draws qd in
            let two = sym (total-map g shown o.draws) ∙ ap (total g) s.did.draws_are ∙ total-map g (recorded list) more in
            let three = ap (total (λ d. g (recorded list d))) ea ∙ total-append (λ d. g (recorded list d)) draws more in
            omega (arith, one, two, three, h.draws_are g);
        repeats_are = ap (map second) rq ∙ map-append second p.repeats _ ∙ ap (λ l. l ++ map second (map (λ n. (j, client_of list n)) others)) h.repeats_are
            ∙ ap (λ l. map (client_of list) repeats ++ l) (map_second j (client_of list) others) ∙ sym (map-append (client_of list) repeats others) ∙ ap (map (client_of list)) (sym er);
        in_turn = ap (in_order (j + 1)) rq ∙ in_order_more j (client_of list) p.repeats others h.in_turn (h.below j (omega arith)) ∙ sym rq;
        below = λ n le. ap (with_number n) rq ∙ below_more' n j (client_of list) p.repeats others le (h.below n (omega arith));
        values_are = qv ∙ ap (λ l. l ++ o.values) h.values_are ∙ ap (λ l. map (put_by list) (filter (λ d. is_included d.told) draws) ++ l) s.did.values_are
            ∙ sym (map-append (put_by list) (filter (λ d. is_included d.told) draws) (filter (λ d. is_included d.told) more)) ∙ ap (map (put_by list)) (sym (filter-append (λ d. is_included d.told) draws more))
            ∙ ap (λ l. map (put_by list) (filter (λ d. is_included d.told) l)) (sym ea);
        all = λ t. rw (Rattle.std.proofs.Common.add-one j) (
            let one = ap (total (λ d. t d.number)) ea ∙ total-append (λ d. t d.number) draws more in
            let two = ap (total t) er ∙ total-append t repeats others in
            omega (arith, one, two, h.all t, s.all t));
      }
