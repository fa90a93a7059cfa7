-- Each step keeps the rule.
use Rattle.std.proofs.Common.{◌≡◌, ℕ, zero, suc, ◌+◌, ◌-◌, ◌%◌, ◌^◌, ◌<◌, ◌≤◌, ◌≢◌, ◌⊎◌, List, [], ◌∷◌, ◌++◌, length, get_or, set, sym, refl, ap, ◌∙◌, subst, inl, inr, ⊎_elim, arith, bit_or, length-set, length-append, get_or-set_same, get_or-set_other, cond, is_some, is_none, IfSome, MatchOption, Option, Some, None, Bool, true, false, ◌==◌, eq-eqb, ne_eqb}
use mathlib.Core.Logic.{dite}
use mathlib.Core.Option.{Option as Maybe, some, some-injective, some-ne-none, none}
use native.Mathlib.Decide.{dec_le, ℕ_discrete}
use lib.ListN.{get_elem?}
use lib.Seq.{set-get_or}
use Rattle.atomic_table.specs.Table.{State, step, Act, keeps, takes, gives, rest, Valid, carried_after, homes_after, stepped, Allows}
use Rattle.atomic_table.proofs.Lists.{at_set, at_snoc, set_here, set_again, set_else}
use Rattle.dn_gate.specs.Draws.{Draw}
use Rattle.dn_counts.specs.Numbers.{rest_of, least}
use Rattle.dn_counts.specs.Counts.{total, equal, times, once_below}
use Rattle.dn_gate.specs.Rule.{closed, is_set, was, at_place, of_client, included_of, is_client, IsBefore, IsTold, view, closed_at, refused_at, IsShut, claims, draws_of, puts, has_closing, many, is_mark, sees, drew_in, drew_late, claimed, repeated, marked, took, looked_at, Ascends, Fits, IsKept, At, Claims, Closes, Draws, Marks, Looks, Takes, Returns, IsSettled, IsIdle, Settles}
use Rattle.dn_gate.specs.declared.view.View.{View}
use Rattle.dn_counts.proofs.Sums.{set_over, total-append, total-set, term_le, total_less, whole, someone, times-append, below_no, below_more, hit, miss, in_range, snoc_at}
use Rattle.dn_gate.proofs.Bits.{close_open, close_closed}
use Rattle.dn_gate.proofs.Least.{least_below}
use Rattle.dn_gate.proofs.Marks.{few_seen}

module _ (T : Type 0) (clients passes : ℕ) (before : List ℕ) where
  abbrev St : Type 0
  St = State (Option T) (View T)

  abbrev Kept : St → Type 0
  Kept = IsKept clients passes before

  abbrev low : St → ℕ
  low s = total (λ v. length v.draws) s.views

  -- each place is below the number of draws
  place_low : (s : St) (k : Kept s) (j i : ℕ) (v : View T) (d : Draw) → get_elem? s.views j ≡ some v → get_elem? v.draws i ≡ some d → d.place < low s
  place_low s k j i v d at there = dite (dec_le (low s) d.place)
      (λ le. absurd (omega (arith, k.places d.place, below_no d.place (low s) le, term_le (λ u. total (at_place d.place) u.draws) s.views j v at, term_le (at_place d.place) v.draws i d there, hit d.place d.place refl)))
      (λ gt. omega arith)

  -- nothing was told late before the closing
  told_open : (count : ℕ) (d : Draw) → d.place < count → IsTold None d → IsTold (Some count) d
  told_open count d lt t = by d.late t
    where
      by : (o : Option ℕ) → MatchOption o (IsBefore d.place None) (λ seen. (closed ≤ seen) × ((c : ℕ) × (None ≡ Some c) × (c ≤ d.place))) → MatchOption o (IsBefore d.place (Some count)) (λ seen. (closed ≤ seen) × ((c : ℕ) × (Some count ≡ Some c) × (c ≤ d.place)))
      by None h = lt
      by (Some seen) h = absurd (off h.1.1)
        where
          off : {c : ℕ} → None ≡ Some c → ⊥
          off e = cc

  -- before the closing no view has one
  open_view : (cut o : Option ℕ) → cut ≡ None → IfSome o (λ n. cut ≡ Some n) → o ≡ None
  open_view cut None e h = refl
  open_view cut (Some n) e h = absurd (off (sym e ∙ h))
    where
      off : None ≡ Some n → ⊥
      off q = cc

  fewer : (vs : List (View T)) → total (λ v. length v.draws) vs ≤ total (λ v. length v.draws + cond (is_some v.claim) 1 0) vs
  fewer [] = omega arith
  fewer (v ∷ vs) = omega (arith, fewer vs)

  all_set : (ws : List ℕ) → total is_set ws ≤ length ws
  all_set [] = omega arith
  all_set (w ∷ ws) = omega (arith, all_set ws, one (w == 0))
    where
      one : (b : Bool) → cond {A = ℕ} b 0 1 ≤ 1
      one true = omega arith
      one false = omega arith

  length-rest_of : (ws : List ℕ) → length (rest_of ws) ≡ length ws - 1
  length-rest_of [] = refl
  length-rest_of (w ∷ ws) = omega arith

  rest_of-set : (ws : List ℕ) (n : ℕ) → rest_of (set ws 0 n) ≡ rest_of ws
  rest_of-set [] n = refl
  rest_of-set (w ∷ ws) n = refl

  at_most : (s : St) (k : Kept s) → low s ≤ clients
  at_most s k = omega (arith, k.few, fewer s.views, all_set (rest_of s.words), length-rest_of s.words, k.wide)

  -- a close that was refused
  denied : (s : St) (k : Kept s) (id r : ℕ) (v : View T) → 0 < length v.numbers → get_elem? s.views id ≡ some v → IsShut k.cut r → r ≤ get_or s.words 0 0 → Kept record { words = s.words; homes = s.homes; views = set s.views id (refused_at v r) }
  denied s k id r v live at shut most =
      let w : View T = refused_at v r in
      let f = k.fits id v at in
      let same : (g : View T → ℕ) → g w ≡ g v → total g (set s.views id w) ≡ total g s.views = λ g q. omega (arith, total-set g s.views id v w at, q) in
      let lows : total (λ u. length u.draws) (set s.views id w) ≡ low s = same (λ u. length u.draws) refl in
      record {
        cut = k.cut;
        wide = k.wide;
        slots = k.slots;
        numbers = same (λ u. length u.numbers) refl ∙ k.numbers;
        once = λ j. omega (arith, same (λ u. times j u.numbers) refl, k.once j);
        control = omega (arith, lows, k.control);
        few = omega (arith, same (λ u. length u.draws + cond (is_some u.claim) 1 0) refl, k.few);
        places = λ j. same (λ u. total (at_place j) u.draws) refl ∙ k.places j ∙ ap (once_below j) (sym lows);
        closings = same has_closing refl ∙ k.closings;
        rights = omega (arith, same (λ u. u.right) refl, k.rights);
        count = subst (λ (x : ℕ). IfSome k.cut (λ y. y ≤ x)) (sym lows) k.count;
        kinds = k.kinds;
        claimed = λ j h. omega (arith, k.claimed j h, same (claims j) refl, same (draws_of j) refl);
        marked = λ j h. k.marked j h ∙ sym (same (puts j) refl);
        stays = λ j h p. k.stays j h (omega (arith, same (sees j) refl, p));
        repeated = λ j o u q a b. ⊎_elim (λ t. k.repeated id o v q at (ap (λ l. get_elem? l o) (ap (λ (y : View T). y.repeats) t.1) ∙ b)) (λ t. k.repeated j o u q t.1 b) (at_set s.views id j w u a);
        found = λ j o u q a b. ⊎_elim
            (λ t. ⊎_elim (λ y. k.found id o v q at y) (λ (y : r ≡ q). subst (λ (x : ℕ). x ≤ get_or s.words 0 0) y most) (at_snoc v.refused r q o (ap (λ l. get_elem? l o) (ap (λ (y : View T). y.refused) t.1) ∙ b)))
            (λ t. k.found j o u q t.1 b)
            (at_set s.views id j w u a);
        free = k.free;
        kept = λ i o j u x a b z. let z' : total (λ y. times i y.taken) s.views ≡ 0 = sym (same (λ y. times i y.taken) refl) ∙ z in ⊎_elim
            (λ t. k.kept i id j v x at (ap (λ l. get_elem? l j) (ap (λ (y : View T). y.values) t.1) ∙ b) z')
            (λ t. k.kept i o j u x t.1 b z')
            (at_set s.views id o w u a);
        fits = λ j u q. ⊎_elim
            (λ t. subst (Fits clients passes before k.cut) t.1 record { limits = f.limits; told = f.told; inside = f.inside; ascending = f.ascending; below = f.below; numbered = f.numbered; closing = f.closing; marks = f.marks; asked = f.asked; made = f.made; refused = λ j' x e'. ⊎_elim (λ t'. f.refused j' x t') (λ (t' : r ≡ x). subst (IsShut k.cut) t' shut) (at_snoc v.refused r x j' e'); takes = f.takes; idle = λ y. absurd (omega arith) })
            (λ t. k.fits j u t.1)
            (at_set s.views id j w u q);
      }

  pub closes : (n id : ℕ) (m : At T) → 0 < length m.0.numbers → clients ≤ 512 → Allows Kept n id m 0 (λ y. bit_or y 4294967296) (Closes (step n 0 4294967296 0 none) m)
  closes n id m live small s k wide at _ = by k.cut refl
    where
      some_none : {x : ℕ} → Some x ≡ None → ⊥
      some_none q = cc

      unclosed : (o : Option ℕ) → IfSome o (λ n'. None ≡ Some n') → IfSome o (λ n'. Some (low s) ≡ Some n')
      unclosed None h = tt
      unclosed (Some x) h = absurd (some_none (sym h))

      by : (o : Option ℕ) → k.cut ≡ o → (w : View T) × (a : Act (Option T)) × Valid s.homes m.1 a × Kept (stepped s 0 (bit_or (get_or s.words 0 0) 4294967296) id m.1 w a) × Closes (step n 0 4294967296 0 none) m (get_or s.words 0 0) (w, carried_after m.1 a)
      by None e =
          let v = m.0 in
          let c : ℕ = get_or s.words 0 0 in
          let d : ℕ = low s in
          let f = k.fits id v at in
          let is : c ≡ d = omega (arith, k.control, ap (λ o. cond {A = ℕ} (is_some o) closed 0) e) in
          let few : d ≤ clients = at_most s k in
          let up : bit_or c 4294967296 ≡ c + 4294967296 = close_open c (omega arith) in
          let w : View T = closed_at v c in
          let here : get_or (set s.words 0 (c + 4294967296)) 0 0 ≡ c + 4294967296 = get_or-set_same s.words 0 (c + 4294967296) 0 (omega (arith, k.wide)) in
          let there : (i : ℕ) → get_or (set s.words 0 (c + 4294967296)) (i + 1) 0 ≡ get_or s.words (i + 1) 0 = λ i. get_or-set_other s.words 0 (i + 1) (c + 4294967296) 0 (λ x. omega arith) in
          let none_closed : total has_closing s.views ≡ 0 = k.closings ∙ ap (λ o. cond {A = ℕ} (is_some o) 1 0) e in
          let mine : has_closing v ≡ 0 = omega (arith, none_closed, term_le has_closing s.views id v at) in
          let no_right : total (λ u. u.right) s.views ≡ 0 = omega (arith, k.rights, ap (λ o. cond {A = ℕ} (is_some o) 1 0) e) in
          let same_draws : (g : View T → ℕ) → g w ≡ g v → total g (set s.views id w) ≡ total g s.views = λ g q. omega (arith, total-set g s.views id v w at, q) in
          let lows : low record { words = s.words; homes = s.homes; views = set s.views id w } ≡ d = same_draws (λ u. length u.draws) refl in
          let st : St = stepped s 0 (c + 4294967296) id m.1 w keeps in
          let told : (j : ℕ) (u x : View T) → get_elem? s.views j ≡ some u → u.draws ≡ x.draws → (i : ℕ) (y : Draw) → get_elem? x.draws i ≡ some y → IsTold (Some d) y = λ j u x q same i y z.
          let z' : get_elem? u.draws i ≡ some y = ap (λ l. get_elem? l i) same ∙ z in
          told_open d y (place_low s k j i u y q z') (subst (λ o. IsTold o y) e ((k.fits j u q).told i y z')) in
          let unshut : (x : ℕ) → IsShut k.cut x → IsShut (Some d) x = λ x h. absurd (some_none (sym h.1 ∙ e)) in
          let kept : Kept st = record {
            cut = Some d;
            wide = length-set s.words 0 (c + 4294967296) ∙ k.wide;
            slots = k.slots;
            numbers = same_draws (λ u. length u.numbers) refl ∙ k.numbers;
            once = λ i. omega (arith, same_draws (λ u. times i u.numbers) refl, k.once i);
            control = omega (arith, here, lows, is);
            few = omega (arith, same_draws (λ u. length u.draws + cond (is_some u.claim) 1 0) refl, k.few, ap (total is_set) (rest_of-set s.words (c + 4294967296)));
            places = λ i. same_draws (λ u. total (at_place i) u.draws) refl ∙ k.places i ∙ ap (once_below i) (sym lows);
            closings = omega (arith, total-set has_closing s.views id v w at, none_closed, mine);
            rights = omega (arith, total-set (λ u. u.right) s.views id v w at, no_right);
            count = omega (arith, lows);
            kinds = λ i h. subst (λ (x : ℕ). (x ≡ 0) ⊎ (x ≡ 1) ⊎ (x ≡ 3)) (sym (there i)) (k.kinds i h);
            claimed = λ i h. ap is_set (there i) ∙ omega (arith, k.claimed i h, same_draws (claims i) refl, same_draws (draws_of i) refl);
            marked = λ i h. ap (λ (x : ℕ). cond {A = ℕ} (x == 3) 1 0) (there i) ∙ k.marked i h ∙ sym (same_draws (puts i) refl);
            stays = λ i h p. there i ∙ k.stays i h (omega (arith, same_draws (sees i) refl, p));
            repeated = λ j i u q a b. subst (λ (x : ℕ). 0 < x) (sym (there q.1)) (⊎_elim
                (λ t. k.repeated id i v q at (ap (λ l. get_elem? l i) (ap (λ (y : View T). y.repeats) t.1) ∙ b))
                (λ t. k.repeated j i u q t.1 b)
                (at_set s.views id j w u a));
            found = λ j i u q a b.
                let before_it : q ≤ c = ⊎_elim (λ t. k.found id i v q at (ap (λ l. get_elem? l i) (ap (λ (y : View T). y.refused) t.1) ∙ b)) (λ t. k.found j i u q t.1 b) (at_set s.views id j w u a) in
                omega (arith, here, before_it);
            free = λ i h z. k.free i h (sym (there i) ∙ z);
            kept = λ i j n' u x a b z.
                let z' : total (λ y. times i y.taken) s.views ≡ 0 = sym (same_draws (λ y. times i y.taken) refl) ∙ z in ⊎_elim
                (λ t. k.kept i id n' v x at (ap (λ l. get_elem? l n') (ap (λ (y : View T). y.values) t.1) ∙ b) z')
                (λ t. k.kept i j n' u x t.1 b z')
                (at_set s.views id j w u a);
            fits = λ j u q. ⊎_elim
                (λ t. subst (Fits clients passes before (Some d)) t.1 record { limits = f.limits; told = told id v w at refl; inside = f.inside; ascending = f.ascending; below = f.below; numbered = f.numbered; closing = ap Some (sym is); marks = f.marks; asked = f.asked; made = refl; refused = λ j' x e'. unshut x (f.refused j' x e'); takes = λ x. absurd (omega arith); idle = λ z. absurd (omega arith) })
                (λ t. let g = k.fits j u t.1 in record { limits = g.limits; told = told j u u t.1 refl; inside = g.inside; ascending = g.ascending; below = g.below; numbered = g.numbered; closing = unclosed u.closing (subst (λ o. IfSome u.closing (λ n'. o ≡ Some n')) e g.closing); marks = g.marks; asked = g.asked; made = g.made; refused = λ j' x e'. unshut x (g.refused j' x e'); takes = g.takes; idle = g.idle })
                (at_set s.views id j w u q);
          } in (
            w,
            keeps,
            tt,
            subst (λ x. Kept (stepped s 0 x id m.1 w keeps)) (sym up) kept,
            ((λ _. (open_view k.cut v.closing e f.closing, refl, f.takes (omega (arith, no_right, term_le (λ u. u.right) s.views id v at)))), λ above. absurd (omega arith)),
          )
      by (Some count) e =
          let c : ℕ = get_or s.words 0 0 in
          let is : c ≡ low s + closed = omega (arith, k.control, ap (λ o. cond {A = ℕ} (is_some o) closed 0) e) in
          let few : low s ≤ clients = at_most s k in
          let up : bit_or c 4294967296 ≡ c = close_closed c (omega arith) (omega arith) in
          let fit : count ≤ low s = subst (λ o. IfSome o (λ x. x ≤ low s)) e k.count in (
            refused_at m.0 c,
            keeps,
            tt,
            subst (λ (x : ℕ). Kept record { words = set s.words 0 x; homes = s.homes; views = set s.views id (refused_at m.0 c) }) (sym up) (subst (λ (x : List ℕ). Kept record { words = x; homes = s.homes; views = set s.views id (refused_at m.0 c) }) (sym (set-get_or s.words 0 0)) (denied s k id c m.0 live at (count, e, omega arith) (omega arith))),
            ((λ below. absurd (omega arith)), λ _. refl),
          )

  -- a client with a claim has no draw, and no value
  undrawn : (s : St) (k : Kept s) (id i : ℕ) (v : View T) → i < clients → get_elem? s.views id ≡ some v → v.claim ≡ Some i → total (draws_of i) s.views ≡ 0
  undrawn s k id i v inside at claim = omega (arith, k.claimed i inside, term_le (claims i) s.views id v at, ap (is_client i) claim, hit i i refl, one (get_or s.words (i + 1) 0 == 0))
    where
      one : (b : Bool) → cond {A = ℕ} b 0 1 ≤ 1
      one true = omega arith
      one false = omega arith

  claimed_word : (s : St) (k : Kept s) (id i : ℕ) (v : View T) → i < clients → get_elem? s.views id ≡ some v → v.claim ≡ Some i → get_or s.words (i + 1) 0 ≢ 0
  claimed_word s k id i v inside at claim z = absurd (omega (arith, k.claimed i inside, term_le (claims i) s.views id v at, ap (is_client i) claim, hit i i refl, ap is_set z))

  includes_le : (i : ℕ) (ds : List Draw) → total (included_of i) ds ≤ total (of_client i) ds
  includes_le i [] = omega arith
  includes_le i (d ∷ ds) = omega (arith, includes_le i ds, one (is_none d.late))
    where
      one : (b : Bool) → cond b (equal d.client i) 0 ≤ equal d.client i
      one true = omega arith
      one false = omega arith

  puts_one : (i j : ℕ) (xs : List (ℕ × T)) (x : T) → get_elem? xs j ≡ some (i, x) → 0 < total (λ q. equal q.0 i) xs
  puts_one i j xs x e = omega (arith, term_le (λ q. equal q.0 i) xs j (i, x) e, hit i i refl)

  no_value : (s : St) (k : Kept s) (i j n' : ℕ) (u : View T) (x : T) → total (draws_of i) s.views ≡ 0 → get_elem? s.views j ≡ some u → get_elem? u.values n' ≡ some (i, x) → ⊥
  no_value s k i j n' u x none_drawn at there = absurd (omega (arith, puts_one i n' u.values x there, (k.fits j u at).marks i, includes_le i u.draws, term_le (draws_of i) s.views j u at))

  -- the seat id draws
  drew : (s : St) (k : Kept s) (id i : ℕ) (v : View T) (d : Draw) (un : Option ℕ) (homes : List (Maybe (Option T))) → i < clients → clients ≤ 512 → 0 < length v.numbers → get_elem? s.views id ≡ some v → v.claim ≡ Some i → v.unmarked ≡ None
      → d.client ≡ i → d.place ≡ low s → IsTold k.cut d → ((j : ℕ) → is_client j un ≡ included_of j d)
      → length homes ≡ clients → ((j : ℕ) → j ≢ i → get_elem? homes j ≡ get_elem? s.homes j)
      → Kept record { words = set s.words 0 (get_or s.words 0 0 + 1); homes = homes; views = set s.views id (view v.passes v.clients v.before v.numbers None un (v.draws ++ d ∷ []) v.values v.repeats v.closing v.looked v.taken v.right v.refused v.closings) }
  drew s k id i v d un homes inside small live at claim unmarked_is client place is_told un_is wide same_home =
      let c : ℕ = get_or s.words 0 0 in
      let f = k.fits id v at in
      let w : View T = view v.passes v.clients v.before v.numbers None un (v.draws ++ d ∷ []) v.values v.repeats v.closing v.looked v.taken v.right v.refused v.closings in
      let here : get_or (set s.words 0 (c + 1)) 0 0 ≡ c + 1 = get_or-set_same s.words 0 (c + 1) 0 (omega (arith, k.wide)) in
      let there : (j : ℕ) → get_or (set s.words 0 (c + 1)) (j + 1) 0 ≡ get_or s.words (j + 1) 0 = λ j. get_or-set_other s.words 0 (j + 1) (c + 1) 0 (λ x. omega arith) in
      let same : (g : View T → ℕ) → g w ≡ g v → total g (set s.views id w) ≡ total g s.views = λ g q. omega (arith, total-set g s.views id v w at, q) in
      let lows : total (λ u. length u.draws) (set s.views id w) ≡ low s + 1 = omega (arith, total-set (λ u. length u.draws) s.views id v w at, length-append v.draws (d ∷ [])) in
      let had : (j : ℕ) → is_client j v.claim ≡ equal i j = λ j. ap (is_client j) claim in
      let of_it : (j : ℕ) → of_client j d ≡ equal i j = λ j. ap (λ x. equal x j) client in
      let drawn : (j : ℕ) → total (of_client j) (v.draws ++ d ∷ []) ≡ total (of_client j) v.draws + equal i j = λ j. omega (arith, total-append (of_client j) v.draws (d ∷ []), of_it j) in
      record {
        cut = k.cut;
        wide = length-set s.words 0 (c + 1) ∙ k.wide;
        slots = wide;
        numbers = same (λ u. length u.numbers) refl ∙ k.numbers;
        once = λ j. omega (arith, same (λ u. times j u.numbers) refl, k.once j);
        control = omega (arith, here, lows, k.control);
        few = omega (arith, total-set (λ u. length u.draws + cond (is_some u.claim) 1 0) s.views id v w at, k.few, ap (total is_set) (rest_of-set s.words (c + 1)), length-append v.draws (d ∷ []), ap (λ o. cond {A = ℕ} (is_some o) 1 0) claim);
        places = λ j. omega (arith, total-set (λ u. total (at_place j) u.draws) s.views id v w at, k.places j, total-append (at_place j) v.draws (d ∷ []), ap (λ x. equal x j) place, below_more j (low s), ap (once_below j) lows);
        closings = same has_closing refl ∙ k.closings;
        rights = omega (arith, same (λ u. u.right) refl, k.rights);
        count = counts k.cut k.count lows;
        kinds = λ j h. subst (λ (x : ℕ). (x ≡ 0) ⊎ (x ≡ 1) ⊎ (x ≡ 3)) (sym (there j)) (k.kinds j h);
        claimed = λ j h. ap is_set (there j) ∙ omega (arith, k.claimed j h, total-set (claims j) s.views id v w at, total-set (draws_of j) s.views id v w at, drawn j, had j);
        marked = λ j h. ap (λ (x : ℕ). cond {A = ℕ} (x == 3) 1 0) (there j) ∙ k.marked j h ∙ sym (same (puts j) refl);
        stays = λ j h p. there j ∙ k.stays j h (omega (arith, same (sees j) refl, p));
        repeated = λ j n' u q a b. subst (λ (x : ℕ). 0 < x) (sym (there q.1)) (⊎_elim
            (λ t. k.repeated id n' v q at (ap (λ l. get_elem? l n') (ap (λ (y : View T). y.repeats) t.1) ∙ b))
            (λ t. k.repeated j n' u q t.1 b)
            (at_set s.views id j w u a));
        found = λ j o u q a b.
            let before_it : q ≤ c = ⊎_elim (λ t. k.found id o v q at (ap (λ l. get_elem? l o) (ap (λ (y : View T). y.refused) t.1) ∙ b)) (λ t. k.found j o u q t.1 b) (at_set s.views id j w u a) in
            omega (arith, here, before_it);
        free = λ j h z. dite (ℕ_discrete j i)
            (λ e. absurd (claimed_word s k id i v inside at claim (ap (λ (x : ℕ). get_or s.words (x + 1) 0) (sym e) ∙ sym (there j) ∙ z)))
            (λ ne. same_home j ne ∙ k.free j h (sym (there j) ∙ z));
        kept = λ j o n' u x a b z.
            let z' : total (λ y. times j y.taken) s.views ≡ 0 = sym (same (λ y. times j y.taken) refl) ∙ z in
            let before_it : (y : ℕ) (q : View T) → get_elem? s.views y ≡ some q → get_elem? q.values n' ≡ some (j, x) → get_elem? homes j ≡ some (some (Some x)) = λ y q r e. dite (ℕ_discrete j i)
            (λ is. absurd (no_value s k i y n' q x (undrawn s k id i v inside at claim) r (e ∙ ap (λ (b' : ℕ). some (b', x)) is)))
            (λ ne. same_home j ne ∙ k.kept j y n' q x r e z') in ⊎_elim
            (λ t. before_it id v at (ap (λ l. get_elem? l n') (ap (λ (y : View T). y.values) t.1) ∙ b))
            (λ t. before_it o u t.1 b)
            (at_set s.views id o w u a);
        fits = λ j u q. ⊎_elim
            (λ t. subst (Fits clients passes before k.cut) t.1 record {
              limits = f.limits;
              told = λ n' y e. ⊎_elim (λ b. f.told n' y b) (λ (b : d ≡ y). subst (IsTold k.cut) b is_told) (at_snoc v.draws d y n' e);
              inside = λ n' y e. ⊎_elim (λ b. f.inside n' y b) (λ (b : d ≡ y). omega (arith, inside, client, ap (λ (q : Draw). q.client) b)) (at_snoc v.draws d y n' e);
              below = f.below;
              numbered = f.numbered;
              ascending = rising v.draws d f.ascending (λ n' y e. omega (arith, place_low s k id n' v y at e, place));
              closing = f.closing;
              marks = λ n'. omega (arith, f.marks n', un_is n', total-append (included_of n') v.draws (d ∷ []), ap (is_client n') unmarked_is);
              asked = f.asked;
              made = f.made;
              refused = f.refused;
              takes = f.takes;
              idle = λ z. absurd (omega arith);
            })
            (λ t. k.fits j u t.1)
            (at_set s.views id j w u q);
      }
    where
      counts : (o : Option ℕ) → IfSome o (λ n. n ≤ low s) → {m : ℕ} → m ≡ low s + 1 → IfSome o (λ n. n ≤ m)
      counts None h e = tt
      counts (Some n) h e = omega arith

      rising : (ds : List Draw) (d : Draw) → ((j k : ℕ) (x y : Draw) → j < k → get_elem? ds j ≡ some x → get_elem? ds k ≡ some y → x.place < y.place) → ((j : ℕ) (x : Draw) → get_elem? ds j ≡ some x → x.place < d.place)
          → (j k : ℕ) (x y : Draw) → j < k → get_elem? (ds ++ d ∷ []) j ≡ some x → get_elem? (ds ++ d ∷ []) k ≡ some y → x.place < y.place
      rising ds d h l j k x y lt a b = ⊎_elim
          (λ b'. ⊎_elim (λ a'. h j k x y lt a' b') (λ a'. absurd (omega (arith, a'.0, in_range ds k y b'))) (snoc_at ds d x j a))
          (λ b'. ⊎_elim (λ a'. omega (arith, l j x a', ap (λ (q : Draw). q.place) b'.1)) (λ a'. absurd (omega (arith, a'.0, b'.0))) (snoc_at ds d x j a))
          (snoc_at ds d y k b)

  pub draws : (n id : ℕ) (m : At T) (i : ℕ) → 0 < length m.0.numbers → clients ≤ 512 → i < clients → m.0.claim ≡ Some i → m.0.unmarked ≡ None → m.1 ≡ (i, None) ∷ []
      → Allows Kept n id m 0 (λ y. (y + 1) % 2 ^ 64) (Draws (step n 0 1 0 none) m)
  draws n id m i live small inside claim unmarked_is out s k wide at _ = by k.cut refl
    where
      same_client : {j : ℕ} → m.0.claim ≡ Some j → i ≡ j
      same_client q = let e : Some i ≡ Some _ = sym claim ∙ q in cc

      ascends : {ws : List ℕ} {hs : List (Maybe (Option T))} (w : View T) → Kept record { words = ws; homes = hs; views = set s.views id w } → Ascends w.draws
      ascends w kept = (kept.fits id w (set_over s.views id m.0 w at)).ascending

      by : (o : Option ℕ) → k.cut ≡ o → (w : View T) × (a : Act (Option T)) × Valid s.homes m.1 a × Kept (stepped s 0 ((get_or s.words 0 0 + 1) % 2 ^ 64) id m.1 w a) × Draws (step n 0 1 0 none) m (get_or s.words 0 0) (w, carried_after m.1 a)
      by None e =
          let c : ℕ = get_or s.words 0 0 in
          let is : c ≡ low s = omega (arith, k.control, ap (λ o. cond {A = ℕ} (is_some o) closed 0) e) in
          let few : low s ≤ clients = at_most s k in
          let next : (c + 1) % 2 ^ 64 ≡ c + 1 = omega arith in
          let w : View T = drew_in m.0 i c in
          let kept : Kept record { words = set s.words 0 (c + 1); homes = s.homes; views = set s.views id w } =
          drew s k id i m.0 record { place = c; client = i; late = None } (Some i) s.homes inside small live at claim unmarked_is refl is (subst (IsBefore c) (sym e) tt) (λ j. refl) k.slots (λ j ne. refl) in (
            w,
            keeps,
            tt,
            subst (λ x. Kept (stepped s 0 x id m.1 w keeps)) (sym next) kept,
            ((λ j q. ((λ _. (open_view k.cut m.0.closing e (k.fits id m.0 at).closing, ap (λ x. (drew_in m.0 x c, m.1)) (same_client q))), λ above. absurd (omega arith))), ascends w kept),
          )
      by (Some count) e =
          let c : ℕ = get_or s.words 0 0 in
          let is : c ≡ low s + closed = omega (arith, k.control, ap (λ o. cond {A = ℕ} (is_some o) closed 0) e) in
          let few : low s ≤ clients = at_most s k in
          let next : (c + 1) % 2 ^ 64 ≡ c + 1 = omega arith in
          let fit : count ≤ low s = subst (λ o. IfSome o (λ x. x ≤ low s)) e k.count in
          let w : View T = drew_late m.0 i c in
          let kept : Kept record { words = set s.words 0 (c + 1); homes = set s.homes i (some None); views = set s.views id w } =
          drew s k id i m.0 record { place = c - closed; client = i; late = Some c } None (set s.homes i (some None)) inside small live at claim unmarked_is refl (omega arith)
          ((omega arith), (count, e, omega arith)) (λ j. refl) (length-set s.homes i (some None) ∙ k.slots) (λ j ne. set_else s.homes i j (some None) ne) in (
            w,
            gives,
            tt,
            subst (λ (x : ℕ × List (ℕ × Option T)). Kept (stepped s 0 x.0 id x.1 w gives)) (λ h. (sym next h, sym out h)) kept,
            ((λ j q. ((λ below. absurd (omega arith)), λ _. ap (λ x. (drew_late m.0 x c, rest m.1)) (same_client q))), ascends w kept),
          )

  index_at : (ws : List ℕ) (i : ℕ) → i < length ws → get_elem? ws i ≡ some (get_or ws i 0)
  index_at [] i h = absurd (omega arith)
  index_at (w ∷ ws) zero h = refl
  index_at (w ∷ ws) (suc i) h = index_at ws i (omega arith)

  rest_of-at : (ws : List ℕ) (i : ℕ) → i + 1 < length ws → get_elem? (rest_of ws) i ≡ some (get_or ws (i + 1) 0)
  rest_of-at [] i h = absurd (omega arith)
  rest_of-at (w ∷ ws) i h = index_at ws i (omega arith) ∙ (let e : suc i ≡ i + 1 = omega arith in ap (λ (j : ℕ). some (get_or (w ∷ ws) j 0)) e)

  rest_of-set_at : (ws : List ℕ) (i n : ℕ) → i + 1 < length ws → rest_of (set ws (i + 1) n) ≡ set (rest_of ws) i n
  rest_of-set_at [] i n h = absurd (omega arith)
  rest_of-set_at (w ∷ ws) i n h = let e : i + 1 ≡ suc i = omega arith in ap (λ (j : ℕ). rest_of (set (w ∷ ws) j n)) e

  -- the word of client i becomes n, and the seat id goes from v to w, with the same draws
  client_step : (s : St) (k : Kept s) (id i n : ℕ) (v w : View T) (homes : List (Maybe (Option T))) → i < clients → get_elem? s.views id ≡ some v
      → w.numbers ≡ v.numbers → w.draws ≡ v.draws → w.closing ≡ v.closing → w.right ≡ v.right → w.refused ≡ v.refused
      → (n ≡ 1) ⊎ (n ≡ 3)
      → cond {A = ℕ} (is_some w.claim) 1 0 + is_set (get_or s.words (i + 1) 0) ≡ cond {A = ℕ} (is_some v.claim) 1 0 + is_set n
      → is_client i w.claim + is_set (get_or s.words (i + 1) 0) ≡ is_client i v.claim + is_set n
      → ((j : ℕ) → j ≢ i → is_client j w.claim ≡ is_client j v.claim)
      → puts i w + cond (get_or s.words (i + 1) 0 == 3) 1 0 ≡ puts i v + cond (n == 3) 1 0
      → ((j : ℕ) → j ≢ i → puts j w ≡ puts j v)
      → ((j : ℕ) (q : ℕ × ℕ) → get_elem? w.repeats j ≡ some q → (get_elem? v.repeats j ≡ some q) ⊎ (q.1 ≡ i))
      → length homes ≡ clients → ((j : ℕ) → j ≢ i → get_elem? homes j ≡ get_elem? s.homes j)
      → ((j : ℕ) (x : T) (c : ℕ) → c ≢ i → get_elem? w.values j ≡ some (c, x) → get_elem? v.values j ≡ some (c, x))
      → ((j : ℕ) → j ≢ i → times j w.taken ≡ times j v.taken)
      → w.looked ≡ v.looked → (0 < total (sees i) (set s.views id w) → n ≡ 3)
      → ((o j : ℕ) (u : View T) (x : T) → get_elem? (set s.views id w) o ≡ some u → get_elem? u.values j ≡ some (i, x) → total (λ y. times i y.taken) (set s.views id w) ≡ 0 → get_elem? homes i ≡ some (some (Some x)))
      → Fits clients passes before k.cut w
      → Kept record { words = set s.words (i + 1) n; homes = homes; views = set s.views id w }
  client_step s k id i n v w homes inside at nums drs cls rgt refs kind few_is claim_i claim_j puts_i puts_j reps wide same_home vals took_j lks marked_i kept_i fit =
      let here : get_or (set s.words (i + 1) n) (i + 1) 0 ≡ n = get_or-set_same s.words (i + 1) n 0 (omega (arith, k.wide)) in
      let there : (j : ℕ) → j ≢ i → get_or (set s.words (i + 1) n) (j + 1) 0 ≡ get_or s.words (j + 1) 0 = λ j ne. get_or-set_other s.words (i + 1) (j + 1) n 0 (λ e. ne (omega arith)) in
      let ctrl : get_or (set s.words (i + 1) n) 0 0 ≡ get_or s.words 0 0 = get_or-set_other s.words (i + 1) 0 n 0 (λ e. omega arith) in
      let same : (g : View T → ℕ) → g w ≡ g v → total g (set s.views id w) ≡ total g s.views = λ g q. omega (arith, total-set g s.views id v w at, q) in
      let lows : total (λ u. length u.draws) (set s.views id w) ≡ low s = same (λ u. length u.draws) (ap length drs) in
      let not_zero : n ≢ 0 = λ z. ⊎_elim (λ (e : n ≡ 1). omega arith) (λ (e : n ≡ 3). omega arith) kind in
      let inside_words : i + 1 < length s.words = omega (arith, k.wide) in
      record {
        cut = k.cut;
        wide = length-set s.words (i + 1) n ∙ k.wide;
        slots = wide;
        numbers = same (λ u. length u.numbers) (ap length nums) ∙ k.numbers;
        once = λ j. omega (arith, same (λ u. times j u.numbers) (ap (times j) nums), k.once j);
        control = omega (arith, ctrl, lows, k.control);
        few = omega (
          arith,
          k.few,
          few_is,
          total-set (λ u. length u.draws + cond (is_some u.claim) 1 0) s.views id v w at,
          ap length drs,
          ap (total is_set) (rest_of-set_at s.words i n inside_words),
          total-set is_set (rest_of s.words) i (get_or s.words (i + 1) 0) n (rest_of-at s.words i inside_words),
        );
        places = λ j. same (λ u. total (at_place j) u.draws) (ap (total (at_place j)) drs) ∙ k.places j ∙ ap (once_below j) (sym lows);
        closings = same has_closing (ap (λ o. cond {A = ℕ} (is_some o) 1 0) cls) ∙ k.closings;
        rights = omega (arith, same (λ u. u.right) rgt, k.rights);
        count = subst (λ (x : ℕ). IfSome k.cut (λ y. y ≤ x)) (sym lows) k.count;
        kinds = λ j h. dite (ℕ_discrete j i)
            (λ e. subst (λ (x : ℕ). (x ≡ 0) ⊎ (x ≡ 1) ⊎ (x ≡ 3)) (sym here ∙ ap (λ (x : ℕ). get_or (set s.words (i + 1) n) (x + 1) 0) (sym e)) (inr kind))
            (λ ne. subst (λ (x : ℕ). (x ≡ 0) ⊎ (x ≡ 1) ⊎ (x ≡ 3)) (sym (there j ne)) (k.kinds j h));
        claimed = λ j h. dite (ℕ_discrete j i)
            (λ e. subst (λ (x : ℕ). is_set (get_or (set s.words (i + 1) n) (x + 1) 0) ≡ was before x + total (claims x) (set s.views id w) + total (draws_of x) (set s.views id w)) (sym e)
            (omega (arith, ap is_set here, k.claimed i inside, claim_i, total-set (claims i) s.views id v w at, same (draws_of i) (ap (total (of_client i)) drs))))
            (λ ne. ap is_set (there j ne) ∙ omega (arith, k.claimed j h, same (claims j) (claim_j j ne), same (draws_of j) (ap (total (of_client j)) drs)));
        marked = λ j h. dite (ℕ_discrete j i)
            (λ e. subst (λ (x : ℕ). cond (get_or (set s.words (i + 1) n) (x + 1) 0 == 3) 1 0 ≡ total (puts x) (set s.views id w)) (sym e)
            (omega (arith, ap (λ (x : ℕ). cond {A = ℕ} (x == 3) 1 0) here, k.marked i inside, puts_i, total-set (puts i) s.views id v w at)))
            (λ ne. ap (λ (x : ℕ). cond {A = ℕ} (x == 3) 1 0) (there j ne) ∙ k.marked j h ∙ sym (same (puts j) (puts_j j ne)));
        stays = λ j h p. dite (ℕ_discrete j i)
            (λ e. subst (λ (x : ℕ). get_or (set s.words (i + 1) n) (x + 1) 0 ≡ 3) (sym e) (here ∙ marked_i (subst (λ (x : ℕ). 0 < total (sees x) (set s.views id w)) e p)))
            (λ ne. there j ne ∙ k.stays j h (omega (arith, same (sees j) (omega (arith, took_j j ne, ap (total (is_mark j)) lks)), p)));
        repeated = λ j o u q a b. dite (ℕ_discrete q.1 i)
            (λ e. subst (λ (x : ℕ). 0 < x) (sym here ∙ ap (λ (x : ℕ). get_or (set s.words (i + 1) n) (x + 1) 0) (sym e)) (⊎_elim (λ (d : n ≡ 1). omega arith) (λ (d : n ≡ 3). omega arith) kind))
            (λ ne. subst (λ (x : ℕ). 0 < x) (sym (there q.1 ne)) (⊎_elim
            (λ t. ⊎_elim (λ y. k.repeated id o v q at y) (λ y. absurd (ne y)) (reps o q (ap (λ l. get_elem? l o) (ap (λ (y : View T). y.repeats) t.1) ∙ b)))
            (λ t. k.repeated j o u q t.1 b)
            (at_set s.views id j w u a)));
        found = λ j o u q a b. subst (λ (x : ℕ). q ≤ x) (sym ctrl) (⊎_elim
            (λ t. k.found id o v q at (ap (λ l. get_elem? l o) (sym refs ∙ ap (λ (y : View T). y.refused) t.1) ∙ b))
            (λ t. k.found j o u q t.1 b)
            (at_set s.views id j w u a));
        free = λ j h z. dite (ℕ_discrete j i)
            (λ e. absurd (not_zero (sym here ∙ ap (λ (x : ℕ). get_or (set s.words (i + 1) n) (x + 1) 0) (sym e) ∙ z)))
            (λ ne. same_home j ne ∙ k.free j h (sym (there j ne) ∙ z));
        kept = λ c o j u x a b z. dite (ℕ_discrete c i)
            (λ e. subst (λ (y : ℕ). get_elem? homes y ≡ some (some (Some x))) (sym e) (kept_i o j u x a (b ∙ ap (λ (y : ℕ). some (y, x)) e) (subst (λ (y : ℕ). total (λ q. times y q.taken) (set s.views id w) ≡ 0) e z)))
            (λ ne. same_home c ne ∙ (let z' : total (λ y. times c y.taken) s.views ≡ 0 = sym (same (λ y. times c y.taken) (took_j c ne)) ∙ z in ⊎_elim
            (λ t. k.kept c id j v x at (vals j x c ne (ap (λ l. get_elem? l j) (ap (λ (y : View T). y.values) t.1) ∙ b)) z')
            (λ t. k.kept c o j u x t.1 b z')
            (at_set s.views id o w u a)));
        fits = λ j u q. ⊎_elim (λ t. subst (Fits clients passes before k.cut) t.1 fit) (λ t. k.fits j u t.1) (at_set s.views id j w u q);
      }

  -- what a step finds at a client's word
  found_kinds : (s : St) (k : Kept s) (i : ℕ) → i < clients → Dec (get_or s.words (i + 1) 0 ≡ 0)
  found_kinds s k i h = ℕ_discrete (get_or s.words (i + 1) 0) 0

  pub claims_word : (n id : ℕ) (m : At T) (i : ℕ) → 0 < length m.0.numbers → i < clients → m.0.claim ≡ None → m.1 ≡ []
      → Allows Kept n id m (i + 1) (λ y. bit_or y 1) (Claims (step n (i + 1) 1 0 none) m)
  claims_word n id m i live inside idle out s k wide at _ = by (ℕ_discrete (get_or s.words (i + 1) 0) 0)
    where
      back : i + 1 - 1 ≡ i
      back = omega arith

      set_kind : (r : ℕ) → (r ≡ 0) ⊎ (r ≡ 1) ⊎ (r ≡ 3) → (r ≡ 0 → ⊥) → (r ≡ 1) ⊎ (r ≡ 3)
      set_kind r h ne = ⊎_elim (λ z. absurd (ne z)) (λ t. t) h

      by : Dec (get_or s.words (i + 1) 0 ≡ 0) → (w : View T) × (a : Act (Option T)) × Valid s.homes m.1 a × Kept (stepped s (i + 1) (bit_or (get_or s.words (i + 1) 0) 1) id m.1 w a) × Claims (step n (i + 1) 1 0 none) m (get_or s.words (i + 1) 0) (w, carried_after m.1 a)
      by (yes z) =
          let v : View T = m.0 in
          let f = k.fits id v at in
          let w : View T = claimed v i in
          let up : bit_or (get_or s.words (i + 1) 0) 1 ≡ 1 = ap (λ (x : ℕ). bit_or x 1) z in
          let no_puts : total (puts i) s.views ≡ 0 = sym (k.marked i inside) ∙ ap (λ (x : ℕ). cond {A = ℕ} (x == 3) 1 0) z in
          let no_claim : (j : ℕ) → is_client j v.claim ≡ 0 = λ j. ap (is_client j) idle in
          let unset : is_set (get_or s.words (i + 1) 0) ≡ 0 = ap is_set z in (
            w,
            takes i None,
            k.free i inside z,
            subst (λ (x : ℕ). Kept (stepped s (i + 1) x id m.1 w (takes i None))) (sym up)
                (client_step s k id i 1 v w (set s.homes i none) inside at refl refl refl refl refl (inl refl)
                (omega (arith, unset, ap (λ o. cond {A = ℕ} (is_some o) 1 0) idle))
                (omega (arith, unset, no_claim i, hit i i refl))
                (λ j ne. miss i j (λ e. ne (sym e)) ∙ sym (no_claim j))
                (omega (arith, ap (λ (x : ℕ). cond {A = ℕ} (x == 3) 1 0) z))
                (λ j ne. refl)
                (λ j q e. inl e)
                (length-set s.homes i none ∙ k.slots)
                (λ j ne. set_else s.homes i j none ne)
                (λ j x c ne e. e)
                (λ j ne. refl)
                refl
                (λ p. absurd (omega (arith, z, k.stays i inside (omega (arith, total-set (sees i) s.views id v w at, p)))))
                (λ o j u x a b c. ⊎_elim
                (λ t. absurd (omega (arith, no_puts, term_le (puts i) s.views id v at, puts_one i j v.values x (ap (λ l. get_elem? l j) (ap (λ (y : View T). y.values) t.1) ∙ b))))
                (λ t. absurd (omega (arith, no_puts, term_le (puts i) s.views o u t.1, puts_one i j u.values x b)))
                (at_set s.views id o w u a))
                record { limits = f.limits; told = f.told; inside = f.inside; ascending = f.ascending; below = f.below; numbered = f.numbered; closing = f.closing; marks = f.marks; asked = f.asked; made = f.made; refused = f.refused; takes = f.takes; idle = λ y. absurd (omega arith) }),
            ((λ _. ap (λ (x : ℕ). (claimed v x, (x, None) ∷ m.1)) (sym back)), λ ne. absurd (ne z)),
          )
      by (no other) =
          let v : View T = m.0 in
          let r : ℕ = get_or s.words (i + 1) 0 in
          let f = k.fits id v at in
          let w : View T = repeated v i in
          let kind : (r ≡ 1) ⊎ (r ≡ 3) = set_kind r (k.kinds i inside) other in
          let same : bit_or r 1 ≡ r = ⊎_elim (λ (e : r ≡ 1). ap (λ (x : ℕ). bit_or x 1) e ∙ sym e) (λ (e : r ≡ 3). ap (λ (x : ℕ). bit_or x 1) e ∙ sym e) kind in
          let took : total (λ y. times i y.taken) (set s.views id w) ≡ total (λ y. times i y.taken) s.views = omega (arith, total-set (λ y. times i y.taken) s.views id v w at) in (
            w,
            keeps,
            tt,
            subst (λ (x : ℕ). Kept (stepped s (i + 1) x id m.1 w keeps)) (sym same)
                (client_step s k id i r v w s.homes inside at refl refl refl refl refl kind refl refl (λ j ne. refl) refl (λ j ne. refl)
                (λ j q e. ⊎_elim (λ t. inl t) (λ (t : (least v.numbers, i) ≡ q). inr (sym (ap (λ (x : ℕ × ℕ). x.1) t))) (at_snoc v.repeats (least v.numbers, i) q j e))
                k.slots
                (λ j ne. refl)
                (λ j x c ne e. e)
                (λ j ne. refl)
                refl
                (λ p. k.stays i inside (omega (arith, total-set (sees i) s.views id v w at, p)))
                (λ o j u x a b c. ⊎_elim
                (λ t. k.kept i id j v x at (ap (λ l. get_elem? l j) (ap (λ (y : View T). y.values) t.1) ∙ b) (sym took ∙ c))
                (λ t. k.kept i o j u x t.1 b (sym took ∙ c))
                (at_set s.views id o w u a))
                record {
                  limits = f.limits;
                  told = f.told;
                  inside = f.inside;
                  ascending = f.ascending;
                  below = f.below;
                  numbered = λ j q e. ⊎_elim (λ t. f.numbered j q t) (λ (t : (least v.numbers, i) ≡ q). subst (λ (x : ℕ × ℕ). x.0 < passes) t (least_below v.numbers passes live f.below)) (at_snoc v.repeats (least v.numbers, i) q j e);
                  closing = f.closing;
                  marks = f.marks;
                  asked = λ j q e. ⊎_elim (λ t. f.asked j q t) (λ (t : (least v.numbers, i) ≡ q). subst (λ (x : ℕ × ℕ). x.1 < clients) t inside) (at_snoc v.repeats (least v.numbers, i) q j e);
                  made = f.made;
                  refused = f.refused;
                  takes = f.takes;
                  idle = λ y. absurd (omega arith);
                }),
            ((λ z. absurd (other z)), λ _. ap (λ (x : ℕ). (repeated v x, m.1)) (sym back)),
          )

  set_most : (r : ℕ) → is_set r ≤ 1
  set_most r = one (r == 0)
    where
      one : (b : Bool) → cond {A = ℕ} b 0 1 ≤ 1
      one true = omega arith
      one false = omega arith

  puts_le : (s : St) (k : Kept s) (i j : ℕ) (u : View T) → get_elem? s.views j ≡ some u → puts i u ≤ draws_of i u
  puts_le s k i j u at = omega (arith, (k.fits j u at).marks i, includes_le i u.draws)

  value_or : T → List (ℕ × Option T) → T
  value_or d [] = d
  value_or d (c ∷ cs) = of c.1
    where
      of : Option T → T
      of None = d
      of (Some x) = x

  pub marks_word : (n id : ℕ) (m : At T) (i : ℕ) (x : T) → 0 < length m.0.numbers → i < clients → m.0.unmarked ≡ Some i → m.1 ≡ (i, Some x) ∷ []
      → Allows Kept n id m (i + 1) (λ y. bit_or y 2) (Marks (step n (i + 1) 2 0 none) m)
  unfolding value_or
  marks_word n id m i x live inside pending out s k wide at _ =
      let v : View T = m.0 in
      let r : ℕ = get_or s.words (i + 1) 0 in
      let f = k.fits id v at in
      let w : View T = marked v i x in
      let back : i + 1 - 1 ≡ i = omega arith in
      let own : puts i v + 1 ≤ draws_of i v = omega (arith, f.marks i, ap (is_client i) pending, hit i i refl, includes_le i v.draws) in
      let all : total (draws_of i) s.views ≤ 1 = omega (arith, k.claimed i inside, set_most r) in
      let none_put : total (puts i) s.views ≡ 0 = omega (arith, total_less (puts i) (draws_of i) s.views id v (λ j u e. puts_le s k i j u e) at, own, all) in
      let set_it : is_set r ≡ 1 = omega (arith, k.claimed i inside, set_most r, term_le (draws_of i) s.views id v at, own) in
      let three : cond {A = ℕ} (r == 3) 1 0 ≡ 0 = k.marked i inside ∙ none_put in
      let one : r ≡ 1 = ⊎_elim (λ (z : r ≡ 0). absurd (omega (arith, set_it, ap is_set z))) (λ t. ⊎_elim (λ (e : r ≡ 1). e) (λ (e : r ≡ 3). absurd (omega (arith, three, ap (λ (y : ℕ). cond {A = ℕ} (y == 3) 1 0) e))) t) (k.kinds i inside) in
      let up : bit_or r 2 ≡ 3 = ap (λ (y : ℕ). bit_or y 2) one in
      let more : (j : ℕ) → puts j w ≡ puts j v + equal i j = λ j. omega (arith, total-append (λ q. equal q.0 j) v.values ((i, x) ∷ [])) in
      let mine : puts i v ≡ 0 = omega (arith, none_put, term_le (puts i) s.views id v at) in (
        w,
        gives,
        tt,
        subst (λ (y : ℕ × List (ℕ × Option T)). Kept (stepped s (i + 1) y.0 id y.1 w gives)) (λ h. (sym up h, sym out h))
            (client_step s k id i 3 v w (set s.homes i (some (Some x))) inside at refl refl refl refl refl (inr refl)
            (omega (arith, set_it))
            (omega (arith, set_it))
            (λ j ne. refl)
            (omega (arith, more i, hit i i refl, three))
            (λ j ne. omega (arith, more j, miss i j (λ e. ne (sym e))))
            (λ j q e. inl e)
            (length-set s.homes i (some (Some x)) ∙ k.slots)
            (λ j ne. set_else s.homes i j (some (Some x)) ne)
            (λ j y c ne e. ⊎_elim (λ t. t) (λ (t : (i, x) ≡ (c, y)). absurd (ne (sym (ap (λ (q : ℕ × T). q.0) t)))) (at_snoc v.values (i, x) (c, y) j e))
            (λ j ne. refl)
            refl
            (λ p. refl)
            (λ o j u y a b c. ⊎_elim
            (λ t. ⊎_elim
            (λ g. absurd (omega (arith, mine, puts_one i j v.values y g)))
            (λ (g : (i, x) ≡ (i, y)). set_here s.homes i (some (Some x)) (omega (arith, k.slots)) ∙ ap (λ (q : ℕ × T). some (some (Some q.1))) g)
            (at_snoc v.values (i, x) (i, y) j (ap (λ l. get_elem? l j) (ap (λ (q : View T). q.values) t.1) ∙ b)))
            (λ t. absurd (omega (arith, none_put, term_le (puts i) s.views o u t.1, puts_one i j u.values y b)))
            (at_set s.views id o w u a))
            record { limits = f.limits; told = f.told; inside = f.inside; ascending = f.ascending; below = f.below; numbered = f.numbered; closing = f.closing; marks = λ j. omega (arith, f.marks j, more j, ap (is_client j) pending); asked = f.asked; made = f.made; refused = f.refused; takes = f.takes; idle = λ y. absurd (omega arith) }),
        (λ y e. λ h. (marked v (sym back h) (ap (value_or x) (sym out ∙ e) h), carried_after (out h) gives)),
      )

  -- what a pass for all knows of a client's word
  knows_mark : (s : St) (k : Kept s) (id i : ℕ) (v : View T) → 0 < length v.numbers → i < clients → get_elem? s.views id ≡ some v → length v.numbers ≡ v.passes → cond {A = ℕ} (get_or s.words (i + 1) 0 == 3) 1 0 ≡ puts i v
  knows_mark s k id i v live inside at all =
      let lim : (v.clients ≡ clients) × (v.passes ≡ passes) × (v.before ≡ before) = ⊎_elim (λ e. absurd (omega arith)) (λ e. e) (k.fits id v at).limits in
      k.marked i inside ∙ whole (puts i) (λ u. length u.numbers) s.views id v (λ j u e z. nothing u.values ((k.fits j u e).idle z).1) at (k.numbers ∙ sym lim.1 ∙ sym all)
    where
      nothing : (xs : List (ℕ × T)) → length xs ≡ 0 → total (λ q. equal q.0 i) xs ≡ 0
      nothing [] e = refl
      nothing (x ∷ xs) e = absurd (omega arith)

  value_of : (i : ℕ) (xs : List (ℕ × T)) → 0 < total (λ q. equal q.0 i) xs → (j : ℕ) × (x : T) × (get_elem? xs j ≡ some (i, x))
  value_of i xs h = let t = someone (λ q. equal q.0 i) xs h in (t.0, t.1.1, t.2 ∙ ap (λ (y : ℕ). some (y, t.1.1)) (named t.1.0 t.3))
    where
      named : (c : ℕ) → 0 < equal c i → c ≡ i
      named c h = dite (ℕ_discrete c i) (λ e. e) (λ ne. absurd (omega (arith, miss c i ne)))

  cut_most : (o : Option ℕ) → cond {A = ℕ} (is_some o) 1 0 ≤ 1
  cut_most None = omega arith
  cut_most (Some x) = omega arith

  pub takes_word : (n id : ℕ) (m : At T) (i : ℕ) → 0 < length m.0.numbers → i < clients → 0 < m.0.right → times i m.0.taken ≡ 0
      → Allows Kept n id m (i + 1) (λ y. y) (Takes (step n (i + 1) 0 0 none) m)
  takes_word n id m i live inside has untaken s k wide at _ = by (ℕ_discrete (get_or s.words (i + 1) 0) 3)
    where
      back : i + 1 - 1 ≡ i
      back = omega arith

      seen : 0 < total (is_mark (i + 1 - 1)) m.0.looked → get_or s.words (i + 1) 0 ≡ 3
      seen p = k.stays i inside (omega (arith, p, ap (λ (c : ℕ). total (is_mark c) m.0.looked) back, term_le (sees i) s.views id m.0 at))

      empty_times : (xs : List ℕ) → length xs ≡ 0 → times i xs ≡ 0
      empty_times [] e = refl
      empty_times (x ∷ xs) e = absurd (omega arith)

      by : Dec (get_or s.words (i + 1) 0 ≡ 3) → (w : View T) × (a : Act (Option T)) × Valid s.homes m.1 a × Kept (stepped s (i + 1) (get_or s.words (i + 1) 0) id m.1 w a) × Takes (step n (i + 1) 0 0 none) m (get_or s.words (i + 1) 0) (w, carried_after m.1 a)
      by (no other) = (
        m.0,
        keeps,
        tt,
        subst (λ (x : List ℕ × List (View T)). Kept record { words = x.0; homes = s.homes; views = x.1 }) (λ h. (sym (set-get_or s.words (i + 1) 0) h, sym (set_again s.views id m.0 at) h)) k,
        ((λ _. refl), (λ e. absurd (other e)), (λ all. knows_mark s k id i m.0 live inside at all ∙ ap (λ (x : ℕ). puts x m.0) (sym back)), seen),
      )
      by (yes three) =
          let v : View T = m.0 in
          let f = k.fits id v at in
          let w : View T = took v i in
          let alone : total (λ u. u.right) s.views ≡ v.right = omega (arith, k.rights, cut_most k.cut, term_le (λ u. u.right) s.views id v at, has) in
          let none_taken : total (λ u. times i u.taken) s.views ≡ 0 =
          whole (λ u. times i u.taken) (λ u. u.right) s.views id v (λ j u e z. empty_times u.taken ((k.fits j u e).takes z)) at alone ∙ untaken in
          let one : total (puts i) s.views ≡ 1 = sym (k.marked i inside) ∙ ap (λ (y : ℕ). cond {A = ℕ} (y == 3) 1 0) three in
          let who = someone (puts i) s.views (omega arith) in
          let what = value_of i who.1.values who.3 in
          let x : T = what.1 in
          let home : get_elem? s.homes i ≡ some (some (Some x)) = k.kept i who.0 what.0 who.1 x who.2 what.2 none_taken in
          let now : total (λ u. times i u.taken) (set s.views id w) ≡ 1 = omega (arith, none_taken, total-set (λ u. times i u.taken) s.views id v w at, untaken, times-append i v.taken (i ∷ []), hit i i refl) in (
            w,
            takes i (Some x),
            home,
            client_step s k id i (get_or s.words (i + 1) 0) v w (set s.homes i none) inside at refl refl refl refl refl (inr three) refl refl (λ j ne. refl) refl (λ j ne. refl)
                (λ j q e. inl e)
                (length-set s.homes i none ∙ k.slots)
                (λ j ne. set_else s.homes i j none ne)
                (λ j y c ne e. e)
                (λ j ne. omega (arith, times-append j v.taken (i ∷ []), miss i j (λ e. ne (sym e))))
                refl
                (λ p. three)
                (λ o j u y a b c. absurd (omega (arith, now, c)))
                record { limits = f.limits; told = f.told; inside = f.inside; ascending = f.ascending; below = f.below; numbered = f.numbered; closing = f.closing; marks = f.marks; asked = f.asked; made = f.made; refused = f.refused; takes = λ q. absurd (omega (arith, q, has)); idle = λ y. absurd (omega arith) },
            (
              (λ ne. absurd (ne three)),
              (λ _. (x, ap (λ (c : ℕ). (took v c, (c, Some x) ∷ m.1)) (sym back), λ j y e. same_value x y home (k.kept i id j v y at (e ∙ ap (λ (c : ℕ). some (c, y)) back) none_taken))),
              (λ all. knows_mark s k id i m.0 live inside at all ∙ ap (λ (c : ℕ). puts c m.0) (sym back)),
              seen,
            ),
          )
        where
          same_value : (x y : T) → get_elem? s.homes i ≡ some (some (Some x)) → get_elem? s.homes i ≡ some (some (Some y)) → y ≡ x
          same_value x y a b = let e : some (some (Some y)) ≡ some (some (Some x)) = sym b ∙ a in cc

  -- an emptied slot of a client whose value was taken goes home
  pub returns_word : (n id : ℕ) (m : At T) (i word : ℕ) → i < clients → 0 < times i m.0.taken → m.1 ≡ (i, None) ∷ []
      → Allows Kept n id m word (λ y. y) (Returns (step n word 0 0 none) m)
  returns_word n id m i word inside taken out s k wide at _ = (
    m.0,
    gives,
    tt,
    subst (λ (x : List ℕ × List (View T)). Kept record { words = x.0; homes = homes_after s.homes m.1 gives; views = x.1 }) (λ h. (sym (set-get_or s.words word 0) h, sym (set_again s.views id m.0 at) h))
        (subst (λ (c : List (ℕ × Option T)). Kept record { words = s.words; homes = homes_after s.homes c gives; views = s.views }) (sym out) record {
          cut = k.cut;
          wide = k.wide;
          slots = length-set s.homes i (some None) ∙ k.slots;
          numbers = k.numbers;
          once = k.once;
          control = k.control;
          few = k.few;
          places = k.places;
          closings = k.closings;
          rights = k.rights;
          count = k.count;
          kinds = k.kinds;
          claimed = k.claimed;
          marked = k.marked;
          stays = k.stays;
          repeated = k.repeated;
          found = k.found;
          free = λ j h z. dite (ℕ_discrete j i)
              (λ e. ap (λ (c : ℕ). get_elem? (set s.homes i (some None)) c) e ∙ set_here s.homes i (some None) (omega (arith, inside, k.slots)))
              (λ ne. set_else s.homes i j (some None) ne ∙ k.free j h z);
          kept = λ j o p u x a b z. set_else s.homes i j (some None) (λ e. absurd (omega (arith, taken, z, ap (λ (c : ℕ). total (λ y. times c y.taken) s.views) e, term_le (λ y. times i y.taken) s.views id m.0 at))) ∙ k.kept j o p u x a b z;
          fits = k.fits;
        }),
    refl,
  )

  -- a word is counted where it was found marked
  marked_at_it : (j c r : ℕ) → (is_mark j (c, r) ≡ 0) ⊎ ((j ≡ c) × (r ≡ 3))
  marked_at_it j c r = dite (ℕ_discrete r 3)
      (λ e. dite (ℕ_discrete j c) (λ d. inr (d, e)) (λ ne. inl (ap (λ b. cond b (equal c j) 0) (eq-eqb r 3 e) ∙ miss c j (λ d. ne (sym d)))))
      (λ ne. inl (ap (λ b. cond b (equal c j) 0) (ne_eqb r 3 ne)))

  -- a look at a word
  quiet : (s : St) (k : Kept s) (id c r : ℕ) (v : View T) → 0 < length v.numbers → get_elem? s.views id ≡ some v → get_or s.words (c + 1) 0 ≡ r → Kept record { words = s.words; homes = s.homes; views = set s.views id (looked_at v c r) }
  quiet s k id c r v live at found =
      let w : View T = looked_at v c r in
      let f = k.fits id v at in
      let same : (g : View T → ℕ) → g w ≡ g v → total g (set s.views id w) ≡ total g s.views = λ g q. omega (arith, total-set g s.views id v w at, q) in
      let lows : total (λ u. length u.draws) (set s.views id w) ≡ low s = same (λ u. length u.draws) refl in
      record {
        cut = k.cut;
        wide = k.wide;
        slots = k.slots;
        numbers = same (λ u. length u.numbers) refl ∙ k.numbers;
        once = λ j. omega (arith, same (λ u. times j u.numbers) refl, k.once j);
        control = omega (arith, lows, k.control);
        few = omega (arith, same (λ u. length u.draws + cond (is_some u.claim) 1 0) refl, k.few);
        places = λ j. same (λ u. total (at_place j) u.draws) refl ∙ k.places j ∙ ap (once_below j) (sym lows);
        closings = same has_closing refl ∙ k.closings;
        rights = omega (arith, same (λ u. u.right) refl, k.rights);
        count = subst (λ (x : ℕ). IfSome k.cut (λ y. y ≤ x)) (sym lows) k.count;
        kinds = k.kinds;
        claimed = λ j h. omega (arith, k.claimed j h, same (claims j) refl, same (draws_of j) refl);
        marked = λ j h. k.marked j h ∙ sym (same (puts j) refl);
        stays = λ j h p. ⊎_elim
            (λ e. k.stays j h (omega (arith, total-set (sees j) s.views id v w at, total-append (is_mark j) v.looked ((c, r) ∷ []), e, p)))
            (λ (e : (j ≡ c) × (r ≡ 3)). ap (λ (x : ℕ). get_or s.words (x + 1) 0) e.0 ∙ found ∙ e.1)
            (marked_at_it j c r);
        repeated = λ j o u q a b. ⊎_elim (λ t. k.repeated id o v q at (ap (λ l. get_elem? l o) (ap (λ (y : View T). y.repeats) t.1) ∙ b)) (λ t. k.repeated j o u q t.1 b) (at_set s.views id j w u a);
        found = λ j o u q a b. ⊎_elim (λ t. k.found id o v q at (ap (λ l. get_elem? l o) (ap (λ (y : View T). y.refused) t.1) ∙ b)) (λ t. k.found j o u q t.1 b) (at_set s.views id j w u a);
        free = k.free;
        kept = λ i o j u x a b z. let z' : total (λ y. times i y.taken) s.views ≡ 0 = sym (same (λ y. times i y.taken) refl) ∙ z in ⊎_elim
            (λ t. k.kept i id j v x at (ap (λ l. get_elem? l j) (ap (λ (y : View T). y.values) t.1) ∙ b) z')
            (λ t. k.kept i o j u x t.1 b z')
            (at_set s.views id o w u a);
        fits = λ j u q. ⊎_elim
            (λ t. subst (Fits clients passes before k.cut) t.1 record { limits = f.limits; told = f.told; inside = f.inside; ascending = f.ascending; below = f.below; numbered = f.numbered; closing = f.closing; marks = f.marks; asked = f.asked; made = f.made; refused = f.refused; takes = f.takes; idle = λ y. absurd (omega arith) })
            (λ t. k.fits j u t.1)
            (at_set s.views id j w u q);
      }

  pub looks_word : (n id : ℕ) (m : At T) (i : ℕ) → 0 < length m.0.numbers → i < clients → Allows Kept n id m (i + 1) (λ y. y) (Looks (step n (i + 1) 0 0 none) m)
  looks_word n id m i live inside s k wide at _ =
      let back : i + 1 - 1 ≡ i = omega arith in
      let r : ℕ = get_or s.words (i + 1) 0 in (
        looked_at m.0 i r,
        keeps,
        tt,
        subst (λ ws. Kept record { words = ws; homes = s.homes; views = set s.views id (looked_at m.0 i r) }) (sym (set-get_or s.words (i + 1) 0)) (quiet s k id i r m.0 live at refl),
        (ap (λ (c : ℕ). (looked_at m.0 c r, m.1)) (sym back), λ all. knows_mark s k id i m.0 live inside at all ∙ ap (λ (x : ℕ). puts x m.0) (sym back)),
      )

  -- in an ascending list of draws whose places fill a range, each has its rank
  rank : (ds : List Draw) (a : ℕ) → ((j k : ℕ) (d e : Draw) → j < k → get_elem? ds j ≡ some d → get_elem? ds k ≡ some e → d.place < e.place)
      → ((j : ℕ) (d : Draw) → get_elem? ds j ≡ some d → a ≤ d.place) → ((j : ℕ) (d : Draw) → get_elem? ds j ≡ some d → d.place < a + length ds)
      → (j : ℕ) (d : Draw) → get_elem? ds j ≡ some d → d.place ≡ a + j
  rank [] a up lo hi j d e = absurd (some-ne-none d (sym e))
  rank (x ∷ ds) a up lo hi j d e =
      let rest_rank = rank ds (x.place + 1) (λ i k p q lt f g. up (suc i) (suc k) p q (omega arith) f g) (λ i p f. omega (arith, up 0 (suc i) x p (omega arith) refl f)) (λ i p f. omega (arith, hi (suc i) p f, lo 0 x refl)) in
      let first : x.place ≡ a = head ds rest_rank (λ i p f. hi (suc i) p f) (lo 0 x refl) (hi 0 x refl) in by j e first rest_rank
    where
      head : (ds : List Draw) → ((i : ℕ) (p : Draw) → get_elem? ds i ≡ some p → p.place ≡ x.place + 1 + i) → ((i : ℕ) (p : Draw) → get_elem? ds i ≡ some p → p.place < a + suc (length ds)) → a ≤ x.place → x.place < a + suc (length ds) → x.place ≡ a
      head [] r h l u = omega arith
      head (y ∷ ys) r h l u = let t = last_of y ys in omega (arith, r t.0 t.1 t.2, h t.0 t.1 t.2, t.3)
        where
          last_of : (y : Draw) (ys : List Draw) → (i : ℕ) × (p : Draw) × (get_elem? (y ∷ ys) i ≡ some p) × (i ≡ length ys)
          last_of y [] = (0, y, refl, refl)
          last_of y (z ∷ zs) = let t = last_of z zs in (suc t.0, t.1, t.2, ap suc t.3)

      by : (j : ℕ) → get_elem? (x ∷ ds) j ≡ some d → x.place ≡ a → ((i : ℕ) (p : Draw) → get_elem? ds i ≡ some p → p.place ≡ x.place + 1 + i) → d.place ≡ a + j
      by zero e f r = omega (arith, ap (λ (q : Draw). q.place) (some-injective x d e))
      by (suc i) e f r = omega (arith, r i d e)

  window_of : (s : St) (k : Kept s) (id : ℕ) (v : View T) → 0 < length v.numbers → get_elem? s.views id ≡ some v → length v.numbers ≡ v.passes → IsIdle v → IsSettled v
  window_of s k id v live at all idle =
      let f = k.fits id v at in
      let lim : (v.clients ≡ clients) × (v.passes ≡ passes) × (v.before ≡ before) = ⊎_elim (λ e. absurd (omega arith)) (λ e. e) f.limits in
      let own : (g : View T → ℕ) → ((j : ℕ) (u : View T) → get_elem? s.views j ≡ some u → length u.numbers ≡ 0 → g u ≡ 0) → total g s.views ≡ g v = λ g z. whole g (λ u. length u.numbers) s.views id v z at (k.numbers ∙ sym lim.1 ∙ sym all) in
      let lows : low s ≡ length v.draws = own (λ u. length u.draws) (λ j u e z. ((k.fits j u e).idle z).0) in
      let drawn : (i : ℕ) → total (draws_of i) s.views ≡ draws_of i v = λ i. own (draws_of i) (λ j u e z. nothing i u.draws ((k.fits j u e).idle z).0) in
      let claim : (i : ℕ) → total (claims i) s.views ≡ 0 = λ i. own (claims i) (λ j u e z. ap (is_client i) ((k.fits j u e).idle z).4) ∙ ap (is_client i) idle.0 in
      let closes_it : total has_closing s.views ≡ has_closing v = own has_closing (λ j u e z. ap (λ o. cond {A = ℕ} (is_some o) 1 0) ((k.fits j u e).idle z).3) in
      let cut_is : k.cut ≡ v.closing = same_cut k.cut v.closing f.closing (sym k.closings ∙ closes_it) in
      record {
        places = λ j d e. rank v.draws 0 f.ascending (λ i p g. omega arith) (λ i p g. omega (arith, place_low s k id i v p at g, lows)) j d e ∙ omega arith;
        inside = λ j d e. subst (λ (c : ℕ). d.client < c) (sym lim.0) (f.inside j d e);
        told = λ j d e. subst (λ o. IsTold o d) cut_is (f.told j d e);
        cut = subst (λ (x : ℕ). IfSome v.closing (λ count. count ≤ x)) lows (subst (λ o. IfSome o (λ count. count ≤ low s)) cut_is k.count);
        numbered = λ j q e. subst (λ (c : ℕ). q.0 < c) (sym lim.1) (f.numbered j q e);
        once = λ i h. omega (arith, k.claimed i (omega (arith, h, lim.0)), drawn i, claim i, ap (λ b. was b i) lim.2, set_most (get_or s.words (i + 1) 0));
        repeats = λ j q e. omega (arith, k.claimed q.1 (f.asked j q e), drawn q.1, claim q.1, ap (λ b. was b q.1) lim.2, set_one (get_or s.words (q.1 + 1) 0) (k.repeated id j v q at e));
        values = λ i. omega (arith, f.marks i, ap (is_client i) idle.1);
        refused = λ j x e. (subst (λ o. IsShut o x) cut_is (f.refused j x e), omega (arith, k.found id j v x at e, k.control, lows, closed_most k.cut));
      }
    where
      nothing : (i : ℕ) (ds : List Draw) → length ds ≡ 0 → total (of_client i) ds ≡ 0
      nothing i [] e = refl
      nothing i (d ∷ ds) e = absurd (omega arith)

      closed_most : (o : Option ℕ) → cond {A = ℕ} (is_some o) closed 0 ≤ closed
      closed_most None = omega arith
      closed_most (Some n) = omega arith

      set_one : (r : ℕ) → 0 < r → is_set r ≡ 1
      set_one r h = ap (λ (b : Bool). cond {A = ℕ} b 0 1) (ne_eqb r 0 (λ e. omega arith))

      same_cut : (o q : Option ℕ) → IfSome q (λ n. o ≡ Some n) → cond {A = ℕ} (is_some o) 1 0 ≡ cond {A = ℕ} (is_some q) 1 0 → o ≡ q
      same_cut None None h e = refl
      same_cut None (Some n) h e = h
      same_cut (Some m) None h e = absurd (omega arith)
      same_cut (Some m) (Some n) h e = h

  pub settles : (n id : ℕ) (m : At T) → 0 < length m.0.numbers → Allows Kept n id m 0 (λ y. y) (Settles (step n 0 0 0 none) m)
  settles n id m live s k wide at _ = (
    m.0,
    keeps,
    tt,
    subst (λ (x : List ℕ × List (View T)). Kept record { words = x.0; homes = s.homes; views = x.1 }) (λ h. (sym (set-get_or s.words 0 0) h, sym (set_again s.views id m.0 at) h)) k,
    (refl, (k.fits id m.0 at).ascending, (λ all idle. window_of s k id m.0 live at all idle), omega (arith, k.rights, cut_most k.cut, term_le (λ u. u.right) s.views id m.0 at), (k.fits id m.0 at).takes, most m.0.closing (k.fits id m.0 at).closing, (k.fits id m.0 at).made),
  )
    where
      lim : (m.0.clients ≡ clients) × (m.0.passes ≡ passes) × (m.0.before ≡ before)
      lim = ⊎_elim (λ e. absurd (omega arith)) (λ e. e) (k.fits id m.0 at).limits

      most : (o : Option ℕ) → IfSome o (λ n'. k.cut ≡ Some n') → IfSome o (λ count. many (λ i. sees i m.0) m.0.clients ≤ count)
      most None h = tt
      most (Some count) h = few_seen T clients passes before s k id m.0 count at h m.0.clients (omega (arith, lim.0))

  -- what the seat has once the value is put into the slot
  put : (m m' : At T) (i : ℕ) (held : Option T) (x : T) → m.1 ≡ (i, held) ∷ [] → m' ≡ (m.0, (i, Some x) ∷ rest m.1) → m' ≡ (m.0, (i, Some x) ∷ [])
  put m m' i held x out e = e ∙ (λ h. (m.0, (i, Some x) ∷ rest (out h)))

  pub marks_at : (n id : ℕ) (m m' : At T) (i : ℕ) (held : Option T) (x : T) → m.1 ≡ (i, held) ∷ [] → m' ≡ (m.0, (i, Some x) ∷ rest m.1) → 0 < length m.0.numbers → i < clients → m.0.unmarked ≡ Some i
      → Allows Kept n id m' (i + 1) (λ y. bit_or y 2) (Marks (step n (i + 1) 2 0 none) m')
  marks_at n id m m' i held x out e live inside pending =
      subst (λ (q : At T). Allows Kept n id q (i + 1) (λ y. bit_or y 2) (Marks (step n (i + 1) 2 0 none) q)) (sym (put m m' i held x out e)) (marks_word n id (m.0, (i, Some x) ∷ []) i x live inside pending refl)

  pub marked_at : (n : ℕ) (m m' q : At T) (i : ℕ) (held : Option T) (x : T) (r : ℕ) → m.1 ≡ (i, held) ∷ [] → m' ≡ (m.0, (i, Some x) ∷ rest m.1) → Marks (step n (i + 1) 2 0 none) m' r q → q ≡ (marked m.0 i x, [])
  marked_at n m m' q i held x r out e told =
      let p = put m m' i held x out e in
      let back : i + 1 - 1 ≡ i = omega arith in
      told x (ap (λ (y : At T). y.1) p ∙ ap (λ (c : ℕ). (c, Some x) ∷ []) (sym back)) ∙ (λ h. (marked (p h).0 (back h) x, []))
