-- Each step keeps the rule.
use Rattle.std.proofs.Common.{◌≡◌, ℕ, ◌+◌, ◌%◌, ◌^◌, ◌<◌, ◌≤◌, min, List, [], ◌∷◌, ◌++◌, length, get_or, set, sym, refl, ap, ◌∙◌, subst, inl, inr, ⊎_elim, arith, length-set, length-append, get_or-set_same, cond, is_some, IfSome, Option, Some, None, nat_le, lt-ltb, le-ltb, leb-true}
use mathlib.Core.Option.{some, some-ne-none, none}
use native.Mathlib.Decide.{dec_le}
use lib.ListN.{get_elem?}
use Rattle.atomic_table.specs.Table.{State, Me, Step, step, keeps, stepped, opening, Allows, Splits, Joins}
use Rattle.atomic_table.proofs.Lists.{at_set, at_snoc, set_else}
use Rattle.dn_counts.specs.Counts.{total, times, once_below}
use Rattle.dn_leaf.specs.Counts.{IsDistinctBelow, HasEachOnce}
use Rattle.dn_counts.specs.Numbers.{first_some}
use Rattle.dn_leaf.specs.Rule.{view, first_view, less_one, one_of, joined, spent, after_look, after_draw, over, Fits, IsKept, Knows, IsPass, Looks, Draws}
use Rattle.dn_leaf.specs.declared.view.View.{View}
use Rattle.dn_counts.proofs.Sums.{total-append, total-set, term_le, total_le, whole, times-append, times-push, below_yes, below_no, below_more, set_over}

abbrev S : Type 0
S = Unit {0}

abbrev St : Type 0
St = State S View

abbrev word : St → ℕ
word s = get_or s.words 0 0

over_le : (v : View) → over v ≤ v.stands
over_le v = at (is_some v.seen)
  where
    at : (b : Rattle.std.specs.Prelude.Bool) → cond b v.stands 0 ≤ v.stands
    at Rattle.std.specs.Prelude.true = omega arith
    at Rattle.std.specs.Prelude.false = omega arith

-- what the rule tells of a pass
knows : (c p : ℕ) (s : St) (k : IsKept c p s) (id : ℕ) (v : View) → get_elem? s.views id ≡ some v → 0 < v.stands → Knows v (word s)
knows c p s k id v at live =
    let lim : (v.count ≡ c) × (v.passes ≡ p) = ⊎_elim (λ e. absurd (omega arith)) (λ e. e) (k.fits id v at).limits in
    let ce : v.count ≡ c = lim.0 in
    let pe : v.passes ≡ p = lim.1 in
    let same : min (word s) v.count ≡ min (word s) c = ap (min (word s)) ce in
    let idle : (f : View → ℕ) → ((u : View) → length u.draws ≡ 0 → f u ≡ 0) → v.stands ≡ v.passes → total f s.views ≡ f v = λ f z all.
    whole f (λ u. u.stands) s.views id v (λ j u e n. z u ((k.fits j u e).idle n)) at (k.stands ∙ sym pe ∙ sym all) in
    record {
      bound = omega (arith, k.bound, k.stands, total_le over (λ u. u.stands) s.views over_le, ce, pe);
      past = past v.seen ce (k.fits id v at).seen;
      apart = λ x. omega (arith, term_le (λ u. times x u.draws) s.views id v at, k.each x, ap (once_below x) same);
      whole = λ all x. omega (arith, idle (λ u. times x u.draws) (λ u e. nowhere x u.draws e) all, k.each x, ap (once_below x) same);
      number = λ all. omega (arith, idle (λ u. length u.draws) (λ u e. e) all, k.drawn, ce);
      alone = λ all none_seen. omega (arith, k.bound, ce, whole over (λ u. u.stands) s.views id v (λ j u e n. omega (arith, over_le u, n)) at (k.stands ∙ sym pe ∙ sym all), ap (λ o. cond (is_some o) v.stands 0) none_seen);
    }
  where
    past : (o : Option ℕ) → v.count ≡ c → IfSome o (λ n. (c ≤ n) × (n ≤ word s)) → IfSome o (λ n. (v.count ≤ n) × (n ≤ word s))
    past None e h = tt
    past (Some n) e h = (omega arith, h.1)

    nowhere : (x : ℕ) (xs : List ℕ) → length xs ≡ 0 → times x xs ≡ 0
    nowhere x [] e = refl
    nowhere x (y ∷ ys) e = absurd (omega arith)

later : (c p a b : ℕ) (v : View) → a ≤ b → Fits c p a v → Fits c p b v
later c p a b v le f = record { limits = f.limits; seen = at v.seen f.seen; idle = f.idle }
  where
    at : (o : Option ℕ) → IfSome o (λ n. (c ≤ n) × (n ≤ a)) → IfSome o (λ n. (c ≤ n) × (n ≤ b))
    at None h = tt
    at (Some n) h = (h.0, omega (arith, h.1))

-- the seat id goes from v to w, and the word to n
moved : (c p : ℕ) (s : St) (k : IsKept c p s) (id : ℕ) (v w : View) (n : ℕ) → get_elem? s.views id ≡ some v → w.stands ≡ v.stands
    → ((x : ℕ) → times x w.draws + once_below x (min (word s) c) ≡ times x v.draws + once_below x (min n c))
    → length w.draws + min (word s) c ≡ length v.draws + min n c
    → n ≤ c + total over (set s.views id w) → word s ≤ n → Fits c p n w
    → IsKept c p (stepped s 0 n id [] w keeps)
moved c p s k id v w n at stands each drawn bound on fits =
    let here : get_or (set s.words 0 n) 0 0 ≡ n = get_or-set_same s.words 0 n 0 (omega (arith, k.one_word)) in
    record {
      one_word = length-set s.words 0 n ∙ k.one_word;
      stands = omega (arith, total-set (λ u. u.stands) s.views id v w at, k.stands, stands);
      each = λ x. omega (arith, total-set (λ u. times x u.draws) s.views id v w at, k.each x, each x, ap (λ (m : ℕ). once_below x (min m c)) here);
      drawn = omega (arith, total-set (λ u. length u.draws) s.views id v w at, k.drawn, drawn, here);
      bound = omega (arith, bound, here);
      fits = λ j u e. subst (λ m. Fits c p m u) (sym here) (⊎_elim (λ t. subst (Fits c p n) t.1 fits) (λ t. later c p (word s) n u on (k.fits j u t.1)) (at_set s.views id j w u e));
    }

-- the limits of a live view
limits : (c p : ℕ) (s : St) (k : IsKept c p s) (id : ℕ) (v : View) → get_elem? s.views id ≡ some v → 0 < v.stands → (v.count ≡ c) × (v.passes ≡ p)
limits c p s k id v at live = ⊎_elim (λ e. absurd (omega arith)) (λ e. e) (k.fits id v at).limits

-- what a look does to the value seen: it stays, or it is the word, which is then at the count or above
seen_after : (c n : ℕ) (o : Option ℕ) (b : Rattle.std.specs.Prelude.Bool) → IfSome o (λ m. (c ≤ m) × (m ≤ n)) → (b ≡ Rattle.std.specs.Prelude.true → c ≤ n) → IfSome (first_some o (cond b (Some n) None)) (λ m. (c ≤ m) × (m ≤ n))
seen_after c n None Rattle.std.specs.Prelude.true h t = (t refl, omega arith)
seen_after c n None Rattle.std.specs.Prelude.false h t = tt
seen_after c n (Some m) b h t = h

over_after : (c n d : ℕ) (o p : Option ℕ) → cond (is_some o) d 0 ≤ cond (is_some (first_some o p)) d 0
over_after c n d None None = omega arith
over_after c n d None (Some m) = omega arith
over_after c n d (Some m) p = omega arith

pub looks : (c p n id : ℕ) (m : Me S View) → 0 < m.0.stands → Allows (IsKept c p) n id m 0 (λ y. y) (Looks (step n 0 0 0 none) m)
looks c p n id m live s k wide at _ =
    let lim = limits c p s k id m.0 at live in
    let f = k.fits id m.0 at in
    let w : View = after_look m.0 (word s) in
    let st : St = stepped s 0 (word s) id [] w keeps in
    let one : get_or st.words 0 0 ≡ word s = get_or-set_same s.words 0 (word s) 0 (omega (arith, k.one_word)) in
    let kept : IsKept c p st = moved c p s k id m.0 w (word s) at refl (λ x. refl) refl
    (omega (arith, k.bound, total-set over s.views id m.0 w at, over_after c (word s) m.0.stands m.0.seen (cond (nat_le m.0.count (word s)) (Some (word s)) None)))
    (omega arith)
    record {
      limits = f.limits;
      seen = seen_after c (word s) m.0.seen (nat_le m.0.count (word s)) f.seen (λ t. omega (arith, leb-true m.0.count (word s) t, lim.0));
      idle = f.idle;
    } in (
      w,
      keeps,
      tt,
      kept,
      (refl, subst (Knows w) one (knows c p st kept id w (set_over s.views id m.0 w at) live)),
    )

-- a view that drew, and one that found the word at the count or above
drew : View → ℕ → View
drew v r = view v.count v.passes v.stands (v.draws ++ r ∷ []) None

ended : View → ℕ → View
ended v r = view v.count v.passes v.stands v.draws (Some r)

draw_yes : (v : View) (r : ℕ) → r < v.count → after_draw v r ≡ view v.count v.passes v.stands (v.draws ++ r ∷ []) None
draw_yes v r h = ap (λ b. cond b (view v.count v.passes v.stands (v.draws ++ r ∷ []) None) (view v.count v.passes v.stands v.draws (Some r))) (lt-ltb r v.count h)

draw_no : (v : View) (r : ℕ) → v.count ≤ r → after_draw v r ≡ view v.count v.passes v.stands v.draws (Some r)
draw_no v r h = ap (λ b. cond b (view v.count v.passes v.stands (v.draws ++ r ∷ []) None) (view v.count v.passes v.stands v.draws (Some r))) (le-ltb r v.count h)

unseen : (v : View) → v.seen ≡ None → over v ≡ 0
unseen v e = ap (λ o. cond (is_some o) v.stands 0) e

-- the word goes one up
abbrev Drawn : ℕ → ℕ → St → ℕ → Me S View → View → Type 0
Drawn c p s id m w = IsKept c p (stepped s 0 (word s + 1) id [] w keeps) × Knows w (word s + 1)

drawn_by : (c p : ℕ) (s : St) (k : IsKept c p s) (id : ℕ) (m : Me S View) → get_elem? s.views id ≡ some m.0 → 0 < m.0.stands → m.0.seen ≡ None → Dec (m.0.count ≤ word s) → (w : View) × (w ≡ after_draw m.0 (word s)) × (w.stands ≡ m.0.stands) × IsKept c p (stepped s 0 (word s + 1) id [] w keeps)
drawn_by c p s k id m at live none_seen (yes le) =
    let lim = limits c p s k id m.0 at live in
    let f = k.fits id m.0 at in
    let ce : m.0.count ≡ c = lim.0 in
    let w : View = view m.0.count m.0.passes m.0.stands m.0.draws (Some (word s)) in
    let o = unseen m.0 none_seen in
    let b = k.bound in
    let mn : min (word s) c ≡ min (word s + 1) c = omega arith in (
      w,
      sym (draw_no m.0 (word s) le),
      refl,
      moved c p s k id m.0 w (word s + 1) at refl (λ x. ap (λ (n : ℕ). times x m.0.draws + once_below x n) mn) (omega arith)
          (omega (arith, total-set over s.views id m.0 w at))
          (omega arith)
          record { limits = f.limits; seen = (omega arith, omega arith); idle = f.idle },
    )
drawn_by c p s k id m at live none_seen (no gt) =
    let lim = limits c p s k id m.0 at live in
    let f = k.fits id m.0 at in
    let ce : m.0.count ≡ c = lim.0 in
    let r : ℕ = word s in
    let w : View = view m.0.count m.0.passes m.0.stands (m.0.draws ++ r ∷ []) None in
    let b = k.bound in
    let o = unseen m.0 none_seen in
    let m₁ : min r c ≡ r = omega arith in
    let m₂ : min (r + 1) c ≡ r + 1 = omega arith in (
      w,
      sym (draw_yes m.0 r (omega arith)),
      refl,
      moved c p s k id m.0 w (r + 1) at refl
          (λ x. omega (arith, times-push x m.0.draws r, below_more x r, ap (once_below x) m₁, ap (once_below x) m₂))
          (omega (arith, length-append m.0.draws (r ∷ [])))
          (omega (arith, total-set over s.views id m.0 w at))
          (omega arith)
          record { limits = f.limits; seen = tt; idle = λ z. absurd (omega arith) },
    )

pub draws : (c p n id : ℕ) (m : Me S View) → 0 < m.0.stands → m.0.seen ≡ None → c + p < 18446744073709551615 → Allows (IsKept c p) n id m 0 (λ y. (y + 1) % 2 ^ 64) (Draws (step n 0 1 0 none) m)
draws c p n id m live none_seen small s k wide at _ =
    let t = drawn_by c p s k id m at live none_seen (dec_le m.0.count (word s)) in
    let here = knows c p s k id m.0 at live in
    let low : word s ≤ c + p = omega (arith, k.bound, k.stands, total_le over (λ u. u.stands) s.views over_le) in
    let next : (word s + 1) % 2 ^ 64 ≡ word s + 1 = omega arith in
    let st : St = stepped s 0 (word s + 1) id [] t.0 keeps in
    let alive : 0 < t.0.stands = subst (λ (n : ℕ). 0 < n) (sym t.2) live in
    let one : get_or st.words 0 0 ≡ word s + 1 = get_or-set_same s.words 0 (word s + 1) 0 (omega (arith, k.one_word)) in
    let after : Knows t.0 (word s + 1) = subst (Knows t.0) one (knows c p st t.3 id t.0 (set_over s.views id m.0 t.0 at) alive) in (
      t.0,
      keeps,
      tt,
      subst (λ n. IsKept c p (stepped s 0 n id [] t.0 keeps)) (sym next) t.3,
      ((λ i. (t.1 i, m.1)), here, after),
    )

pub starts : (c p : ℕ) → IsKept c p (opening (0 ∷ []) [] (first_view c p))
starts c p = record {
  one_word = refl;
  stands = omega arith;
  each = λ x. sym (below_no x (min 0 c) (omega arith));
  drawn = omega arith;
  bound = omega arith;
  fits = λ j u e. ⊎_elim (λ (x : get_elem? [] j ≡ some u). absurd (some-ne-none u (sym x))) (λ (t : first_view c p ≡ u). subst (Fits c p 0) t record { limits = inr (refl, refl); seen = tt; idle = λ _. refl }) (at_snoc [] (first_view c p) u j e);
}

pub splits : (c p id k : ℕ) → 1 < k → Splits (IsKept c p) id (view c p k [] None) (less_one (view c p k [] None)) (one_of (view c p k [] None))
splits c p id k more s h at =
    let v : View = view c p k [] None in
    let w : View = less_one v in
    let u : View = one_of v in
    let both : (g : View → ℕ) → total g (set s.views id w ++ u ∷ []) + g v ≡ total g s.views + g w + g u = λ g. omega (arith, total-append g (set s.views id w) (u ∷ []), total-set g s.views id v w at) in
    record {
      one_word = h.one_word;
      stands = omega (arith, both (λ x. x.stands), h.stands);
      each = λ x. omega (arith, both (λ y. times x y.draws), h.each x);
      drawn = omega (arith, both (λ x. length x.draws), h.drawn);
      bound = omega (arith, both over, h.bound);
      fits = λ j y e. ⊎_elim
          (λ t. ⊎_elim (λ q. subst (Fits c p (word s)) q.1 record { limits = inr (refl, refl); seen = tt; idle = λ _. refl }) (λ q. h.fits j y q.1) (at_set s.views id j w y t))
          (λ t. subst (Fits c p (word s)) t record { limits = inr (refl, refl); seen = tt; idle = λ _. refl })
          (at_snoc (set s.views id w) u y j e);
    }

over_joined : (a b : ℕ) (o q : Option ℕ) → cond (is_some o) a 0 + cond (is_some q) b 0 ≤ cond (is_some (first_some o q)) (a + b) 0
over_joined a b None None = omega arith
over_joined a b None (Some n) = omega arith
over_joined a b (Some m) None = omega arith
over_joined a b (Some m) (Some n) = omega arith

seen_joined : (c n : ℕ) (o q : Option ℕ) → IfSome o (λ m. (c ≤ m) × (m ≤ n)) → IfSome q (λ m. (c ≤ m) × (m ≤ n)) → IfSome (first_some o q) (λ m. (c ≤ m) × (m ≤ n))
seen_joined c n None q a b = b
seen_joined c n (Some m) q a b = a

pub joins : (c p id : ℕ) (v : View) (other : ℕ) (w : View) → 0 < v.stands → Joins (IsKept c p) id v other w (joined v w) spent
joins c p id v other w live s h at apart them =
    let j : View = joined v w in
    let vs : List View = set s.views id j in
    let there : get_elem? s.views other ≡ some w = sym (set_else s.views id other j apart) ∙ them in
    let lim = limits c p s h id v at live in
    let f = h.fits id v at in
    let g₂ = h.fits other w there in
    let both : (g : View → ℕ) → total g (set vs other spent) + g w + g v ≡ total g s.views + g j + g spent = λ g. omega (arith, total-set g s.views id v j at, total-set g vs other w spent them) in
    record {
      one_word = h.one_word;
      stands = omega (arith, both (λ x. x.stands), h.stands);
      each = λ x. omega (arith, both (λ y. times x y.draws), h.each x, times-append x v.draws w.draws);
      drawn = omega (arith, both (λ x. length x.draws), h.drawn, length-append v.draws w.draws);
      bound = omega (arith, both over, h.bound, over_joined v.stands w.stands v.seen w.seen);
      fits = λ k y e. ⊎_elim
          (λ t. subst (Fits c p (word s)) t.1 record { limits = inl refl; seen = tt; idle = λ _. refl })
          (λ t. ⊎_elim
          (λ q. subst (Fits c p (word s)) q.1 record { limits = inr lim; seen = seen_joined c (word s) v.seen w.seen f.seen g₂.seen; idle = λ z. absurd (omega arith) })
          (λ q. h.fits k y q.1)
          (at_set s.views id k j y t.1))
          (at_set vs other k spent y e);
    }

below_less : (x m n : ℕ) → m ≤ n → once_below x m ≤ once_below x n
below_less x m n h = at (dec_le m x)
  where
    at : Dec (m ≤ x) → once_below x m ≤ once_below x n
    at (yes le) = omega (arith, below_no x m le)
    at (no gt) = omega (arith, below_yes x m (omega arith), below_yes x n (omega arith))

-- a pass after a step
pub is_pass : (me : Me S View) (seen : Option ℕ) (n : ℕ) → me.1 ≡ [] → seen ≡ me.0.seen → 0 < me.0.stands → Knows me.0 n → IsPass me seen
is_pass me seen n empty same live k = record {
  no_slot = empty;
  same = same;
  live = live;
  apart = λ x. omega (arith, k.apart x, below_less x (min n me.0.count) me.0.count (omega arith));
  past = subst (λ o. IfSome o (λ m. (me.0.count ≤ m) × (m ≤ me.0.count + me.0.passes))) (sym same) (past me.0.seen k.past);
  ended = subst (λ o. IfSome o (λ m. me.0.stands ≡ me.0.passes → HasEachOnce me.0.draws me.0.count)) (sym same) (ended me.0.seen k.past);
}
  where
    past : (o : Option ℕ) → IfSome o (λ m. (me.0.count ≤ m) × (m ≤ n)) → IfSome o (λ m. (me.0.count ≤ m) × (m ≤ me.0.count + me.0.passes))
    past None h = tt
    past (Some m) h = (h.0, omega (arith, h.1, k.bound))

    ended : (o : Option ℕ) → IfSome o (λ m. (me.0.count ≤ m) × (m ≤ n)) → IfSome o (λ m. me.0.stands ≡ me.0.passes → HasEachOnce me.0.draws me.0.count)
    ended None h = tt
    ended (Some m) h = λ all. let full : min n me.0.count ≡ me.0.count = omega (arith, h.0, h.1) in subst (HasEachOnce me.0.draws) full (k.whole all)

pub after_ok : (st : Step S) (m n : Me S View) (seen : Option ℕ) (found : ℕ) → IsPass m seen → seen ≡ None → found < m.0.count → Draws st m found n → IsPass n seen × (n.0.count ≡ m.0.count)
after_ok st m n seen found is none_seen low told =
    let e : n ≡ (view m.0.count m.0.passes m.0.stands (m.0.draws ++ found ∷ []) None, m.1) = told.0 ∙ ap (λ v. (v, m.1)) (draw_yes m.0 found low) in
    let alive : 0 < n.0.stands = subst (λ (y : Me S View). 0 < y.0.stands) (sym e) is.live in
    (is_pass n seen (found + 1) (ap (λ (y : Me S View). y.1) e ∙ is.no_slot) (none_seen ∙ sym (ap (λ (y : Me S View). y.0.seen) e)) alive told.2, ap (λ (y : Me S View). y.0.count) e)

pub after_join : (st : Step S) (m n : Me S View) (seen : Option ℕ) (found : ℕ) → m.1 ≡ [] → 0 < m.0.stands → seen ≡ (after_look m.0 found).seen → Looks st m found n → IsPass n seen
after_join st m n seen found empty live same told =
    let alive : 0 < n.0.stands = subst (λ (y : Me S View). 0 < y.0.stands) (sym told.0) live in
    is_pass n seen found (ap (λ (y : Me S View). y.1) told.0 ∙ empty) (same ∙ sym (ap (λ (y : Me S View). y.0.seen) told.0)) alive told.1

-- the first pass gives one pass away
pub cuts : (c p id k : ℕ) (m : Me S View) → m ≡ (view c p k [] None, []) → 1 < k → Splits (IsKept c p) id m.0 (less_one m.0) (one_of m.0)
cuts c p id k m e more = subst (λ (y : Me S View). Splits (IsKept c p) id y.0 (less_one y.0) (one_of y.0)) (sym e) (splits c p id k more)

pub joined_apart : (st : Step S) (m n : Me S View) (found c : ℕ) → Looks st m found n → m.0.count ≡ c → IsDistinctBelow n.0.draws c
joined_apart st m n found c told e =
    let f : n.0.count ≡ c = ap (λ (y : Me S View). y.0.count) told.0 ∙ e in
    λ x. omega (arith, told.1.apart x, below_less x (min found n.0.count) c (omega arith))
