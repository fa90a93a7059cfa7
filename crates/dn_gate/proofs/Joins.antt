-- Making, cutting and joining passes keeps the rule.
use Rattle.std.proofs.Common.{◌≡◌, ℕ, zero, suc, ◌+◌, ◌<◌, ◌≤◌, ◌≢◌, ◌⊎◌, List, [], ◌∷◌, ◌++◌, length, get_or, set, sym, refl, ap, ◌∙◌, subst, inl, inr, ⊎_elim, arith, length-append, cond, is_some, IfSome, Option, Some, None, Bool, true, false, ◌==◌, map, replicate, nat_lt}
use Rattle.std.proofs.lemmas.List.{length-map, length-replicate}
use Rattle.dn_gate.specs.Opening.{opens}
use mathlib.Core.Option.{some, some-injective, some-ne-none}
use lib.ListN.{get_elem?}
use Rattle.atomic_table.specs.Table.{Joins, Splits, opening}
use Rattle.atomic_table.proofs.Lists.{at_set, at_snoc, set_else}
use Rattle.dn_gate.specs.Draws.{Draw}
use Rattle.dn_counts.specs.Counts.{total, equal, times, once_below}
use Rattle.dn_counts.specs.Numbers.{first_some, rest_of, first_of}
use Rattle.dn_gate.specs.Rule.{at_place, of_client, included_of, is_client, joined, spent, is_set, was, without_first, of_first, without_right, of_right, claims, draws_of, puts, is_mark, sees, has_closing, Fits, IsKept}
use Rattle.dn_gate.specs.declared.view.View.{View}
use Rattle.dn_counts.proofs.Sums.{total-append, total-set, term_le, terms_le, times-append, hit, below_no}
use Rattle.dn_gate.proofs.Ranges.{length-range, range_below, times-range}
use Rattle.dn_gate.proofs.Merges.{Among, total-merge, among-merge, rises-merge}

module _ {A : Type 0} where
  append_at : (xs ys : List A) (j : ℕ) (a : A) → get_elem? (xs ++ ys) j ≡ some a → (get_elem? xs j ≡ some a) ⊎ ((i : ℕ) × (get_elem? ys i ≡ some a))
  append_at [] ys j a e = inr (j, e)
  append_at (x ∷ xs) ys zero a e = inl e
  append_at (x ∷ xs) ys (suc j) a e = ⊎_elim (λ t. inl t) (λ t. inr t) (append_at xs ys j a e)

length-total : {A : Type 0} (xs : List A) → length xs ≡ total (λ _. 1) xs
length-total [] = refl
length-total (x ∷ xs) = omega (arith, length-total xs)

one_at : (n i j : ℕ) → get_elem? (n ∷ []) i ≡ some j → some n ≡ some j
one_at n zero j e = e
one_at n (suc i) j e = absurd (some-ne-none j (sym e))

module _ (T : Type 0) (clients passes : ℕ) (before : List ℕ) where
  pub joins : (id : ℕ) (v : View T) (other : ℕ) (w : View T) → 0 < length v.numbers → w.claim ≡ None → w.unmarked ≡ None → Joins (IsKept {T = T} clients passes before) id v other w (joined v w) spent
  joins id v other w live no_claim no_mark s k at apart them =
      let j : View T = joined v w in
      let vs : List (View T) = set s.views id j in
      let there : get_elem? s.views other ≡ some w = sym (set_else s.views id other j apart) ∙ them in
      let f = k.fits id v at in
      let g = k.fits other w there in
      let lim : (v.clients ≡ clients) × (v.passes ≡ passes) × (v.before ≡ before) = ⊎_elim (λ e. absurd (omega arith)) (λ e. e) f.limits in
      let both : (q : View T → ℕ) → total q (set vs other spent) + q w + q v ≡ total q s.views + q j + q spent = λ q. omega (arith, total-set q s.views id v j at, total-set q vs other w spent them) in
      let same : (q : View T → ℕ) → q j + q spent ≡ q v + q w → total q (set vs other spent) ≡ total q s.views = λ q e. omega (arith, both q, e) in
      let long : length j.draws ≡ length v.draws + length w.draws = omega (arith, length-total j.draws, length-total v.draws, length-total w.draws, total-merge (λ _. 1) v.draws w.draws) in
      let lows : total (λ u. length u.draws) (set vs other spent) ≡ total (λ u. length u.draws) s.views = same (λ u. length u.draws) (omega (arith, long)) in
      let claim : (i : ℕ) → claims i w ≡ 0 = λ i. ap (is_client i) no_claim in
      let put : (i : ℕ) → puts i j ≡ puts i v + puts i w = λ i. total-append (λ q. equal q.0 i) v.values w.values in
      let took : (i : ℕ) → total (λ u. times i u.taken) (set vs other spent) ≡ total (λ u. times i u.taken) s.views = λ i. same (λ u. times i u.taken) (omega (arith, times-append i v.taken w.taken)) in
      let most : has_closing v + has_closing w ≤ 1 = omega (arith, terms_le has_closing s.views id other v w apart at there, k.closings, cut_most k.cut) in
      let disjoint : (x y : Draw) → Among x v.draws → Among y w.draws → x.place ≢ y.place = λ x y a b e. absurd (omega (
        arith,
        k.places x.place,
        once_most x.place (total (λ u. length u.draws) s.views),
        terms_le (λ u. total (at_place x.place) u.draws) s.views id other v w apart at there,
        term_le (at_place x.place) v.draws a.0 x a.1,
        term_le (at_place x.place) w.draws b.0 y b.1,
        hit x.place x.place refl,
        hit y.place x.place (sym e),
      )) in
      let fit : Fits clients passes before k.cut j = record {
        limits = inr lim;
        told = λ n d e. ⊎_elim (λ a. f.told a.0 d a.1) (λ a. g.told a.0 d a.1) (among-merge d v.draws w.draws (n, e));
        inside = λ n d e. ⊎_elim (λ a. f.inside a.0 d a.1) (λ a. g.inside a.0 d a.1) (among-merge d v.draws w.draws (n, e));
        ascending = rises-merge v.draws w.draws f.ascending g.ascending disjoint;
        below = λ n m e. ⊎_elim (λ a. f.below n m a) (λ a. g.below a.0 m a.1) (append_at v.numbers w.numbers n m e);
        numbered = λ n q e. ⊎_elim (λ a. f.numbered n q a) (λ a. g.numbered a.0 q a.1) (append_at v.repeats w.repeats n q e);
        closing = either_cut k.cut v.closing w.closing f.closing g.closing;
        marks = λ i. omega (arith, f.marks i, g.marks i, put i, total-merge (included_of i) v.draws w.draws, ap (is_client i) no_mark);
        asked = λ n q e. ⊎_elim (λ a. f.asked n q a) (λ a. g.asked a.0 q a.1) (append_at v.repeats w.repeats n q e);
        made = omega (arith, f.made, g.made, either_has v.closing w.closing most);
        refused = λ n q e. ⊎_elim (λ a. f.refused n q a) (λ a. g.refused a.0 q a.1) (append_at v.refused w.refused n q e);
        takes = λ e. omega (arith, length-append v.taken w.taken, f.takes (omega (arith, e)), g.takes (omega (arith, e)));
        idle = λ z. absurd (omega (arith, z, length-append v.numbers w.numbers));
      } in
      record {
        cut = k.cut;
        wide = k.wide;
        slots = k.slots;
        numbers = same (λ u. length u.numbers) (omega (arith, length-append v.numbers w.numbers)) ∙ k.numbers;
        once = λ n. omega (arith, same (λ u. times n u.numbers) (omega (arith, times-append n v.numbers w.numbers)), k.once n);
        control = omega (arith, lows, k.control);
        few = omega (arith, k.few, same (λ u. length u.draws + cond (is_some u.claim) 1 0) (omega (arith, long, ap (λ o. cond {A = ℕ} (is_some o) 1 0) no_claim)));
        places = λ n. same (λ u. total (at_place n) u.draws) (omega (arith, total-merge (at_place n) v.draws w.draws)) ∙ k.places n ∙ ap (once_below n) (sym lows);
        closings = same has_closing (omega (arith, either_has v.closing w.closing most)) ∙ k.closings;
        rights = omega (arith, same (λ u. u.right) (omega arith), k.rights);
        count = subst (λ (x : ℕ). IfSome k.cut (λ y. y ≤ x)) (sym lows) k.count;
        kinds = k.kinds;
        claimed = λ i h. omega (arith, k.claimed i h, same (claims i) (omega (arith, claim i)), same (draws_of i) (omega (arith, total-merge (of_client i) v.draws w.draws)));
        marked = λ i h. k.marked i h ∙ sym (same (puts i) (omega (arith, put i)));
        stays = λ i h p. k.stays i h (omega (arith, same (sees i) (omega (arith, times-append i v.taken w.taken, total-append (is_mark i) v.looked w.looked)), p));
        repeated = λ o n u q a b. ⊎_elim
            (λ t. absurd (some-ne-none q (sym b ∙ ap (λ (y : View T). get_elem? y.repeats n) (sym t.1))))
            (λ t. ⊎_elim
            (λ y. ⊎_elim (λ c. k.repeated id n v q at c) (λ c. k.repeated other c.0 w q there c.1) (append_at v.repeats w.repeats n q (ap (λ (x : View T). get_elem? x.repeats n) y.1 ∙ b)))
            (λ y. k.repeated o n u q y.1 b)
            (at_set s.views id o j u t.1))
            (at_set vs other o spent u a);
        found = λ o n u q a b. ⊎_elim
            (λ t. absurd (some-ne-none q (sym b ∙ ap (λ (y : View T). get_elem? y.refused n) (sym t.1))))
            (λ t. ⊎_elim
            (λ y. ⊎_elim (λ c. k.found id n v q at c) (λ c. k.found other c.0 w q there c.1) (append_at v.refused w.refused n q (ap (λ (x : View T). get_elem? x.refused n) y.1 ∙ b)))
            (λ y. k.found o n u q y.1 b)
            (at_set s.views id o j u t.1))
            (at_set vs other o spent u a);
        free = k.free;
        kept = λ i o n u x a b z. let z' : total (λ y. times i y.taken) s.views ≡ 0 = sym (took i) ∙ z in ⊎_elim
            (λ t. absurd (some-ne-none (i, x) (sym b ∙ ap (λ (y : View T). get_elem? y.values n) (sym t.1))))
            (λ t. ⊎_elim
            (λ y. ⊎_elim (λ c. k.kept i id n v x at c z') (λ c. k.kept i other c.0 w x there c.1 z') (append_at v.values w.values n (i, x) (ap (λ (q : View T). get_elem? q.values n) y.1 ∙ b)))
            (λ y. k.kept i o n u x y.1 b z')
            (at_set s.views id o j u t.1))
            (at_set vs other o spent u a);
        fits = λ o u a. ⊎_elim
            (λ t. subst (Fits clients passes before k.cut) t.1 (blank k.cut))
            (λ t. ⊎_elim (λ y. subst (Fits clients passes before k.cut) y.1 fit) (λ y. k.fits o u y.1) (at_set s.views id o j u t.1))
            (at_set vs other o spent u a);
      }
    where
      cut_most : (o : Option ℕ) → cond {A = ℕ} (is_some o) 1 0 ≤ 1
      cut_most None = omega arith
      cut_most (Some x) = omega arith

      once_most : (x n : ℕ) → once_below x n ≤ 1
      once_most x n = one (Rattle.std.specs.Prelude.nat_lt x n)
        where
          one : (b : Bool) → cond {A = ℕ} b 1 0 ≤ 1
          one true = omega arith
          one false = omega arith

      either_cut : (o a b : Option ℕ) → IfSome a (λ n. o ≡ Some n) → IfSome b (λ n. o ≡ Some n) → IfSome (first_some a b) (λ n. o ≡ Some n)
      either_cut o None b p q = q
      either_cut o (Some n) b p q = p

      either_has : (a b : Option ℕ) → cond {A = ℕ} (is_some a) 1 0 + cond {A = ℕ} (is_some b) 1 0 ≤ 1 → cond {A = ℕ} (is_some (first_some a b)) 1 0 ≡ cond {A = ℕ} (is_some a) 1 0 + cond {A = ℕ} (is_some b) 1 0
      either_has None b h = omega arith
      either_has (Some n) None h = omega arith
      either_has (Some n) (Some m) h = absurd (omega arith)

      blank : (o : Option ℕ) → Fits {T = T} clients passes before o spent
      blank o = record {
        limits = inl refl;
        told = λ n d e. absurd (some-ne-none d (sym e));
        inside = λ n d e. absurd (some-ne-none d (sym e));
        ascending = λ n m d e lt a b. absurd (some-ne-none d (sym a));
        below = λ n m e. absurd (some-ne-none m (sym e));
        numbered = λ n q e. absurd (some-ne-none q (sym e));
        closing = tt;
        marks = λ i. refl;
        asked = λ n q e. absurd (some-ne-none q (sym e));
        made = refl;
        refused = λ i q e. absurd (some-ne-none q (sym e));
        takes = λ e. refl;
        idle = λ z. (refl, refl, refl, refl, refl);
      }

  pub cuts : (id : ℕ) (v : View T) (n m : ℕ) (ns : List ℕ) → v.numbers ≡ n ∷ m ∷ ns → v.claim ≡ None → v.unmarked ≡ None → v.draws ≡ [] → v.values ≡ [] → v.repeats ≡ [] → v.closing ≡ None → v.taken ≡ []
      → Splits (IsKept {T = T} clients passes before) id v (without_first v) (of_first v)
  cuts id v n m ns is no_claim no_mark no_draws no_values no_repeats no_closing no_taken s k at =
      let w : View T = without_first v in
      let u : View T = of_first v in
      let f = k.fits id v at in
      let lim : (v.clients ≡ clients) × (v.passes ≡ passes) × (v.before ≡ before) = ⊎_elim (λ e. absurd (omega (arith, ap length is))) (λ e. e) f.limits in
      let both : (g : View T → ℕ) → total g (set s.views id w ++ u ∷ []) + g v ≡ total g s.views + g w + g u = λ g. omega (arith, total-append g (set s.views id w) (u ∷ []), total-set g s.views id v w at) in
      let first_below : (i j : ℕ) → get_elem? (n ∷ []) i ≡ some j → j < passes = λ i j e. f.below 0 j (ap (λ l. get_elem? l 0) is ∙ one_at n i j e) in
      let wn : w.numbers ≡ m ∷ ns = ap rest_of is in
      let un : u.numbers ≡ n ∷ [] = ap first_of is in
      let same : (g : View T → ℕ) → g w ≡ g v → g u ≡ 0 → total g (set s.views id w ++ u ∷ []) ≡ total g s.views = λ g a b. omega (arith, both g, a, b) in
      let lows : total (λ x. length x.draws) (set s.views id w ++ u ∷ []) ≡ total (λ x. length x.draws) s.views = same (λ x. length x.draws) refl refl in
      let wf : Fits clients passes before k.cut w = record { limits = inr lim; told = f.told; inside = f.inside; ascending = f.ascending; below = λ i j e. f.below (suc i) j (ap (λ l. get_elem? l (suc i)) is ∙ ap (λ l. get_elem? l i) (sym wn) ∙ e); numbered = f.numbered; closing = f.closing; marks = f.marks; asked = f.asked; made = f.made; refused = f.refused; takes = f.takes; idle = λ z. (ap length no_draws, ap length no_values, ap length no_repeats, no_closing, no_claim) } in
      let uf : Fits clients passes before k.cut u = record {
        limits = inr lim;
        told = λ i d e. absurd (some-ne-none d (sym e));
        inside = λ i d e. absurd (some-ne-none d (sym e));
        ascending = λ i j d e lt a b. absurd (some-ne-none d (sym a));
        below = λ i j e. first_below i j (ap (λ l. get_elem? l i) (sym un) ∙ e);
        numbered = λ i q e. absurd (some-ne-none q (sym e));
        closing = tt;
        marks = λ i. refl;
        asked = λ i q e. absurd (some-ne-none q (sym e));
        made = refl;
        refused = λ i q e. absurd (some-ne-none q (sym e));
        takes = λ e. refl;
        idle = λ z. (refl, refl, refl, refl, refl);
      } in
      record {
        cut = k.cut;
        wide = k.wide;
        slots = k.slots;
        numbers = omega (arith, both (λ x. length x.numbers), k.numbers, ap length wn, ap length un, ap length is);
        once = λ j. omega (arith, both (λ x. times j x.numbers), k.once j, ap (times j) wn, ap (times j) un, ap (times j) is, times-append j (n ∷ []) (m ∷ ns), times-append j (m ∷ []) ns);
        control = omega (arith, lows, k.control);
        few = omega (arith, k.few, same (λ x. length x.draws + cond (is_some x.claim) 1 0) refl refl);
        places = λ j. same (λ x. total (at_place j) x.draws) refl refl ∙ k.places j ∙ ap (once_below j) (sym lows);
        closings = same has_closing refl refl ∙ k.closings;
        rights = omega (arith, same (λ u. u.right) refl refl, k.rights);
        count = subst (λ (x : ℕ). IfSome k.cut (λ y. y ≤ x)) (sym lows) k.count;
        kinds = k.kinds;
        claimed = λ i h. omega (arith, k.claimed i h, same (claims i) refl refl, same (draws_of i) refl refl);
        marked = λ i h. k.marked i h ∙ sym (same (puts i) refl refl);
        stays = λ i h p. k.stays i h (omega (arith, same (sees i) refl refl, p));
        repeated = λ j o x q a b. ⊎_elim
            (λ t. ⊎_elim (λ y. k.repeated id o v q at (ap (λ (z : View T). get_elem? z.repeats o) y.1 ∙ b)) (λ y. k.repeated j o x q y.1 b) (at_set s.views id j w x t))
            (λ (t : u ≡ x). absurd (some-ne-none q (sym b ∙ ap (λ (z : View T). get_elem? z.repeats o) (sym t))))
            (at_snoc (set s.views id w) u x j a);
        found = λ j o x q a b. ⊎_elim
            (λ t. ⊎_elim (λ y. k.found id o v q at (ap (λ (z : View T). get_elem? z.refused o) y.1 ∙ b)) (λ y. k.found j o x q y.1 b) (at_set s.views id j w x t))
            (λ (t : u ≡ x). absurd (some-ne-none q (sym b ∙ ap (λ (z : View T). get_elem? z.refused o) (sym t))))
            (at_snoc (set s.views id w) u x j a);
        free = k.free;
        kept = λ i j o x y a b z. let z' : total (λ q. times i q.taken) s.views ≡ 0 = sym (same (λ q. times i q.taken) refl refl) ∙ z in ⊎_elim
            (λ t. ⊎_elim (λ c. k.kept i id o v y at (ap (λ (q : View T). get_elem? q.values o) c.1 ∙ b) z') (λ c. k.kept i j o x y c.1 b z') (at_set s.views id j w x t))
            (λ (t : u ≡ x). absurd (some-ne-none (i, y) (sym b ∙ ap (λ (q : View T). get_elem? q.values o) (sym t))))
            (at_snoc (set s.views id w) u x j a);
        fits = λ j y e. ⊎_elim
            (λ t. ⊎_elim (λ q. subst (Fits clients passes before k.cut) q.1 wf) (λ q. k.fits j y q.1) (at_set s.views id j w y t))
            (λ (t : u ≡ y). subst (Fits clients passes before k.cut) t uf)
            (at_snoc (set s.views id w) u y j e);
      }

  pub hands : (id : ℕ) (v : View T) → 0 < length v.numbers → length v.taken ≡ 0 → Splits (IsKept {T = T} clients passes before) id v (without_right v) (of_right v)
  hands id v live none_taken s k at =
      let w : View T = without_right v in
      let u : View T = of_right v in
      let f = k.fits id v at in
      let both : (g : View T → ℕ) → total g (set s.views id w ++ u ∷ []) + g v ≡ total g s.views + g w + g u = λ g. omega (arith, total-append g (set s.views id w) (u ∷ []), total-set g s.views id v w at) in
      let same : (g : View T → ℕ) → g w + g u ≡ g v → total g (set s.views id w ++ u ∷ []) ≡ total g s.views = λ g a. omega (arith, both g, a) in
      let lows : total (λ x. length x.draws) (set s.views id w ++ u ∷ []) ≡ total (λ x. length x.draws) s.views = same (λ x. length x.draws) (omega arith) in
      let wf : Fits clients passes before k.cut w = record { limits = f.limits; told = f.told; inside = f.inside; ascending = f.ascending; below = f.below; numbered = f.numbered; closing = f.closing; marks = f.marks; asked = f.asked; made = f.made; refused = f.refused; takes = λ _. none_taken; idle = f.idle } in
      let uf : Fits clients passes before k.cut u = record {
        limits = inl refl;
        told = λ i d e. absurd (some-ne-none d (sym e));
        inside = λ i d e. absurd (some-ne-none d (sym e));
        ascending = λ i j d e lt a b. absurd (some-ne-none d (sym a));
        below = λ i j e. absurd (some-ne-none j (sym e));
        numbered = λ i q e. absurd (some-ne-none q (sym e));
        closing = tt;
        marks = λ i. refl;
        asked = λ i q e. absurd (some-ne-none q (sym e));
        made = refl;
        refused = λ i q e. absurd (some-ne-none q (sym e));
        takes = λ e. refl;
        idle = λ z. (refl, refl, refl, refl, refl);
      } in
      record {
        cut = k.cut;
        wide = k.wide;
        slots = k.slots;
        numbers = same (λ x. length x.numbers) (omega arith) ∙ k.numbers;
        once = λ j. omega (arith, same (λ x. times j x.numbers) (omega arith), k.once j);
        control = omega (arith, lows, k.control);
        few = omega (arith, k.few, same (λ x. length x.draws + cond (is_some x.claim) 1 0) (omega arith));
        places = λ j. same (λ x. total (at_place j) x.draws) (omega arith) ∙ k.places j ∙ ap (once_below j) (sym lows);
        closings = same has_closing (omega arith) ∙ k.closings;
        rights = omega (arith, same (λ x. x.right) (omega arith), k.rights);
        count = subst (λ (x : ℕ). IfSome k.cut (λ y. y ≤ x)) (sym lows) k.count;
        kinds = k.kinds;
        claimed = λ i h. omega (arith, k.claimed i h, same (claims i) (omega arith), same (draws_of i) (omega arith));
        marked = λ i h. k.marked i h ∙ sym (same (puts i) (omega arith));
        stays = λ i h p. k.stays i h (omega (arith, same (sees i) (omega arith), p));
        repeated = λ j o x q a b. ⊎_elim
            (λ t. ⊎_elim (λ y. k.repeated id o v q at (ap (λ (z : View T). get_elem? z.repeats o) y.1 ∙ b)) (λ y. k.repeated j o x q y.1 b) (at_set s.views id j w x t))
            (λ (t : u ≡ x). absurd (some-ne-none q (sym b ∙ ap (λ (z : View T). get_elem? z.repeats o) (sym t))))
            (at_snoc (set s.views id w) u x j a);
        found = λ j o x q a b. ⊎_elim
            (λ t. ⊎_elim (λ y. k.found id o v q at (ap (λ (z : View T). get_elem? z.refused o) y.1 ∙ b)) (λ y. k.found j o x q y.1 b) (at_set s.views id j w x t))
            (λ (t : u ≡ x). absurd (some-ne-none q (sym b ∙ ap (λ (z : View T). get_elem? z.refused o) (sym t))))
            (at_snoc (set s.views id w) u x j a);
        free = k.free;
        kept = λ i j o x y a b z. let z' : total (λ q. times i q.taken) s.views ≡ 0 = sym (same (λ q. times i q.taken) (omega arith)) ∙ z in ⊎_elim
            (λ t. ⊎_elim (λ c. k.kept i id o v y at (ap (λ (q : View T). get_elem? q.values o) c.1 ∙ b) z') (λ c. k.kept i j o x y c.1 b z') (at_set s.views id j w x t))
            (λ (t : u ≡ x). absurd (some-ne-none (i, y) (sym b ∙ ap (λ (q : View T). get_elem? q.values o) (sym t))))
            (at_snoc (set s.views id w) u x j a);
        fits = λ j y e. ⊎_elim
            (λ t. ⊎_elim (λ q. subst (Fits clients passes before k.cut) q.1 wf) (λ q. k.fits j y q.1) (at_set s.views id j w y t))
            (λ (t : u ≡ y). subst (Fits clients passes before k.cut) t uf)
            (at_snoc (set s.views id w) u y j e);
      }

  abbrev no_slot : Option T
  no_slot = None

  empty_slots : (n i : ℕ) → i < n → get_elem? (map some (replicate n no_slot)) i ≡ some (some no_slot)
  empty_slots zero i h = absurd (omega arith)
  empty_slots (suc n) zero h = refl
  empty_slots (suc n) (suc i) h = empty_slots n i (omega arith)

  pub starts : (ws : List ℕ) → length ws ≡ clients + 1 → get_or ws 0 0 ≡ 0 → ((i : ℕ) → i < clients → get_or ws (i + 1) 0 ≡ was before i) → IsKept {T = T} clients passes before (opening ws (replicate clients None) (opens clients passes before))
  starts ws long zero_it words =
      let v : View T = opens clients passes before in record {
        cut = None;
        wide = long;
        slots = length-map (replicate clients None) some ∙ length-replicate clients None;
        numbers = omega (arith, length-range 0 passes);
        once = λ j. omega (arith, times-range 0 passes j);
        control = zero_it;
        few = omega arith;
        places = λ j. sym (below_no j 0 (omega arith));
        closings = refl;
        rights = omega arith;
        count = tt;
        kinds = λ i h. subst (λ (x : ℕ). (x ≡ 0) ⊎ (x ≡ 1) ⊎ (x ≡ 3)) (sym (words i h)) (two (nat_lt 0 (times i before)));
        claimed = λ i h. ap is_set (words i h) ∙ set_was (nat_lt 0 (times i before)) ∙ omega arith;
        marked = λ i h. ap (λ (x : ℕ). cond {A = ℕ} (x == 3) 1 0) (words i h) ∙ not_three (nat_lt 0 (times i before));
        stays = λ i h p. absurd (omega (arith, p));
        repeated = λ j o u q a b. absurd (nothing j u (λ x. get_elem? x.repeats o ≡ some q) a b (λ e. some-ne-none q (sym e)));
        found = λ j o u q a b. absurd (nothing j u (λ x. get_elem? x.refused o ≡ some q) a b (λ e. some-ne-none q (sym e)));
        free = λ i h z. empty_slots clients i h;
        kept = λ i j o u x a b z. absurd (nothing j u (λ y. get_elem? y.values o ≡ some (i, x)) a b (λ e. some-ne-none (i, x) (sym e)));
        fits = λ j u e. ⊎_elim (λ (x : get_elem? [] j ≡ some u). absurd (some-ne-none u (sym x))) (λ (t : v ≡ u). subst (Fits clients passes before None) t record {
          limits = inr (refl, refl, refl);
          told = λ i d e. absurd (some-ne-none d (sym e));
          inside = λ i d e. absurd (some-ne-none d (sym e));
          ascending = λ i j d e lt a b. absurd (some-ne-none d (sym a));
          below = λ i j e. omega (arith, range_below 0 passes i j e);
          numbered = λ i q e. absurd (some-ne-none q (sym e));
          closing = tt;
          marks = λ i. refl;
          asked = λ i q e. absurd (some-ne-none q (sym e));
          made = refl;
          refused = λ i q e. absurd (some-ne-none q (sym e));
          takes = λ e. refl;
          idle = λ z. (refl, refl, refl, refl, refl);
        }) (at_snoc [] v u j e);
      }
    where
      nothing : (j : ℕ) (u : View T) (P : View T → Type 0) → get_elem? (opens clients passes before ∷ []) j ≡ some u → P u → (P (opens clients passes before) → ⊥) → ⊥
      nothing zero u P a p no_p = no_p (subst P (sym (some-injective (opens clients passes before) u a)) p)
      nothing (suc j) u P a p no_p = some-ne-none u (sym a)

      two : (b : Bool) → (cond {A = ℕ} b 1 0 ≡ 0) ⊎ (cond {A = ℕ} b 1 0 ≡ 1) ⊎ (cond {A = ℕ} b 1 0 ≡ 3)
      two true = inr (inl refl)
      two false = inl refl

      set_was : (b : Bool) → is_set (cond b 1 0) ≡ cond b 1 0
      set_was true = refl
      set_was false = refl

      not_three : (b : Bool) → cond {A = ℕ} (cond b 1 0 == 3) 1 0 ≡ 0
      not_three true = refl
      not_three false = refl

  pub starts_at : (ws vs b : List ℕ) → ws ≡ vs → b ≡ before → length vs ≡ clients + 1 → get_or vs 0 0 ≡ 0 → ((i : ℕ) → i < clients → get_or vs (i + 1) 0 ≡ was before i)
      → IsKept {T = T} clients passes b (opening ws (replicate clients None) (opens clients passes b))
  starts_at ws vs b e d long zero_it words = subst (λ (q : List ℕ × List ℕ). IsKept {T = T} clients passes q.1 (opening q.0 (replicate clients None) (opens clients passes q.1))) (λ j. (sym e j, sym d j)) (starts vs long zero_it words)
