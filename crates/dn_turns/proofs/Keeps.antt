-- Each step keeps the rule.
use Rattle.std.proofs.Common.{◌≡◌, ℕ, zero, suc, ◌+◌, ◌%◌, ◌^◌, ◌<◌, ◌≤◌, ◌≢◌, ◌⊎◌, min, List, [], ◌∷◌, ◌++◌, length, get_or, set, sym, refl, ap, ◌∙◌, subst, inl, inr, ⊎_elim, arith, length-set, length-append, get_or-set_same, get_or-set_other, cond, is_some, IfSome, Option, Some, None, nat_lt, nat_le, lt-ltb, le-ltb, le-leb, ◌&&◌, Bool, true, false}
use mathlib.Core.Logic.{dite}
use mathlib.Core.Option.{Option as Maybe, some, some-injective, some-ne-none, none}
use native.Mathlib.Decide.{dec_le, ℕ_discrete}
use Rattle.std.proofs.lemmas.Bool.{cases_lt}
use lib.ListN.{get_elem?}
use lib.Seq.{set-get_or}
use Rattle.atomic_table.specs.Table.{State, Me, Step, step, Act, keeps, takes, gives, Valid, rest, carried_after, stepped, opening, Allows, Splits, Joins}
use Rattle.atomic_table.proofs.Lists.{at_set, at_snoc, set_else, set_again, set_here}
use Rattle.dn_counts.specs.Counts.{total, times, equal}
use Rattle.dn_counts.specs.Numbers.{range}
use Rattle.dn_turns.specs.Logs.{within, Follows, GoesOn, GrowsBelow}
use Rattle.dn_counts.specs.Numbers.{rest_of, first_of, first_some}
use Rattle.dn_turns.specs.Rule.{limit, is_ticket, view, first_view, without_first, of_first, joined, spent, after_ticket, in_turn, passed_on, settled, holds_ticket, has_turn, over, Fits, IsKept, Tickets, Looks, Passes, Settles}
use Rattle.dn_turns.specs.declared.view.View.{View}
use Rattle.dn_counts.proofs.Sums.{total-append, total-set, term_le, terms_le, total_less, total_le, whole, times-append, hit, set_over, length-range, times-range, range_below}
use Rattle.dn_turns.proofs.Within.{within_high, within_more, within_less, leb-no}
use Rattle.dn_turns.proofs.Logs.{whole_log, goes_on, nearer, both_follow, grows_none, grows_by, at_front}

module _ {E B : Type 0} where
  over_le : (v : View E B) → over v ≤ length v.numbers
  over_le v = at (is_some v.full)
    where
      at : (b : Bool) → cond b (length v.numbers) 0 ≤ length v.numbers
      at true = omega arith
      at false = omega arith

  -- a view fits a later count of tickets
  more_tickets : (p : ℕ) (b : B) (log : List (ℕ × E)) (t u r : ℕ) (v : View E B) → t ≤ u → Fits p b log t r v → Fits p b log u r v
  more_tickets p b log t u r v le f = record { limits = f.limits; seen = f.seen; met = f.met; below = f.below; grows = f.grows; turn = f.turn; full = at v.full f.full; idle = f.idle }
    where
      at : (o : Option ℕ) → IfSome o (λ n. (limit ≤ n) × (n < t)) → IfSome o (λ n. (limit ≤ n) × (n < u))
      at None h = tt
      at (Some n) h = (h.0, omega (arith, h.1))

  no_turn : (v : View E B) → v.turn ≡ None → has_turn v ≡ 0
  no_turn v e = ap (λ o. cond (is_some o) 1 0) e

  a_turn : (v : View E B) (g : List (ℕ × E)) → v.turn ≡ Some g → has_turn v ≡ 1
  a_turn v g e = ap (λ o. cond (is_some o) 1 0) e

  not_full : (v : View E B) → v.full ≡ None → over v ≡ 0
  not_full v e = ap (λ o. cond (is_some o) (length v.numbers) 0) e

  no_ticket : (k : ℕ) (v : View E B) → v.ticket ≡ None → holds_ticket k v ≡ 0
  no_ticket k v e = ap (is_ticket k) e

  the_ticket : (t k : ℕ) (v : View E B) → v.ticket ≡ Some t → holds_ticket k v ≡ equal t k
  the_ticket t k v e = ap (is_ticket k) e

  -- who has a turn has the ticket that is served
  turn_holds : (p : ℕ) (b : B) (log : List (ℕ × E)) (t r : ℕ) (v : View E B) → Fits p b log t r v → has_turn v ≤ holds_ticket r v
  turn_holds p b log t r v f = at v.turn f.turn
    where
      at : (o : Option (List (ℕ × E))) → IfSome o (λ g. (g ≡ log) × (v.ticket ≡ Some r)) → cond (is_some o) 1 0 ≤ holds_ticket r v
      at None h = omega arith
      at (Some g) h = omega (arith, the_ticket r r v h.1, hit r r refl)

  module _ {L : Type 0} (list : L → List (ℕ × E)) (base_of : L → B) (p : ℕ) where
    abbrev St : Type 0
    St = State (Option L) (View E B)

    abbrev Kept : St → Type 0
    Kept = IsKept list base_of p

    abbrev At : Type 0
    At = Me (Option L) (View E B)

    abbrev tix : St → ℕ
    tix s = get_or s.words 0 0

    abbrev srv : St → ℕ
    srv s = get_or s.words 1 0

    -- the seat id goes from v to w, with the same numbers and no turn before or after, and one more ticket
    pub tickets : (n id : ℕ) (m : At) → p ≤ 64 → 0 < length m.0.numbers → m.0.ticket ≡ None → m.0.turn ≡ None → m.0.full ≡ None
        → Allows Kept n id m 0 (λ y. (y + 1) % 2 ^ 64) (Tickets list base_of (step n 0 1 0 none) m)
    tickets n id m few live no_tick idle unfull s k wide at _ =
        let v = m.0 in
        let t : ℕ = tix s in
        let r : ℕ = srv s in
        let f = k.fits id v at in
        let low : t ≤ limit + p = omega (arith, k.bound, k.numbers, total_le over (λ u. length u.numbers) s.views over_le) in
        let next : (t + 1) % 2 ^ 64 ≡ t + 1 = omega arith in
        let here : get_or (set s.words 0 (t + 1)) 0 0 ≡ t + 1 = get_or-set_same s.words 0 (t + 1) 0 (omega (arith, k.two_words)) in
        let there : get_or (set s.words 0 (t + 1)) 1 0 ≡ r = get_or-set_other s.words 0 1 (t + 1) 0 (λ e. omega arith) in
        let go : (w : View E B) → w.numbers ≡ v.numbers → w.drawn ≡ v.drawn + 1 → w.turn ≡ v.turn
        → ((j : ℕ) → holds_ticket j w + within r (min t limit) j ≡ within r (min (t + 1) limit) j)
        → t + 1 ≤ limit + total over (set s.views id w) → Fits p k.base k.log (t + 1) r w
        → Kept (stepped s 0 (t + 1) id m.1 w keeps) = λ w same drew turn each bound fits. record {
          base = k.base;
          log = k.log;
          two_words = length-set s.words 0 (t + 1) ∙ k.two_words;
          numbers = omega (arith, total-set (λ u. length u.numbers) s.views id v w at, k.numbers, ap length same);
          once = λ j. omega (arith, total-set (λ u. times j u.numbers) s.views id v w at, k.once j, ap (times j) same);
          tickets = omega (arith, total-set (λ u. u.drawn) s.views id v w at, k.tickets, drew, here);
          bound = omega (arith, bound, here);
          order = omega (arith, k.order, here, there);
          each = λ j. omega (arith, total-set (holds_ticket j) s.views id v w at, k.each j, each j, no_ticket j v no_tick, ap (λ (x : ℕ). within x (min (t + 1) limit) j) there, ap (λ (x : ℕ). within (get_or (set s.words 0 (t + 1)) 1 0) (min x limit) j) here);
          home = λ z. k.home (omega (arith, z, total-set has_turn s.views id v w at, ap (λ (o : Option (List (ℕ × E))). cond {A = ℕ} (is_some o) 1 0) turn));
          fits = λ j u e. subst (λ (x : ℕ × ℕ). Fits p k.base k.log x.0 x.1 u) (λ i. (sym here i, sym there i)) (⊎_elim (λ q. subst (Fits p k.base k.log (t + 1) r) q.1 fits) (λ q. more_tickets p k.base k.log t (t + 1) r u (omega arith) (k.fits j u q.1)) (at_set s.views id j w u e));
        } in
        let yes_no : Dec (limit ≤ t) → (w : View E B) × (w ≡ after_ticket v t) × Kept (stepped s 0 (t + 1) id m.1 w keeps) = λ d. dite d
        (λ le.
        let w : View E B = view v.passes v.base v.numbers (v.drawn + 1) v.ticket v.turn v.seen (Some t) v.met in
        let m₁ : min (t + 1) limit ≡ min t limit = omega arith in (
          w,
          sym (ap (λ b. cond b (view v.passes v.base v.numbers (v.drawn + 1) (Some t) v.turn v.seen v.full v.met) w) (le-ltb t limit le)),
          go w refl refl refl
              (λ j. omega (arith, no_ticket j v no_tick, ap (λ (x : ℕ). within r x j) m₁))
              (omega (arith, k.bound, not_full v unfull, total-set over s.views id v w at))
              record { limits = f.limits; seen = f.seen; met = f.met; below = f.below; grows = f.grows; turn = f.turn; full = (le, omega arith); idle = λ z. absurd (omega arith) },
        ))
        (λ gt.
        let w : View E B = view v.passes v.base v.numbers (v.drawn + 1) (Some t) v.turn v.seen v.full v.met in
        let o = k.order in
        let m₁ : min t limit ≡ t = omega arith in
        let m₂ : min (t + 1) limit ≡ t + 1 = omega arith in (
          w,
          sym (ap (λ b. cond b w (view v.passes v.base v.numbers (v.drawn + 1) v.ticket v.turn v.seen (Some t) v.met)) (lt-ltb t limit (omega arith))),
          go w refl refl refl
              (λ j. omega (arith, within_more r t j (omega arith), ap (λ (x : ℕ). within r x j) m₁, ap (λ (x : ℕ). within r x j) m₂))
              (omega arith)
              record { limits = f.limits; seen = f.seen; met = f.met; below = f.below; grows = f.grows; turn = subst (λ o. IfSome o (λ g. (g ≡ k.log) × (w.ticket ≡ Some r))) (sym idle) tt; full = subst (λ o. IfSome o (λ n. (limit ≤ n) × (n < t + 1))) (sym unfull) tt; idle = λ z. absurd (omega arith) },
        )) in
        let lim : (v.passes ≡ p) × (v.base ≡ Some k.base) = ⊎_elim (λ e. absurd (omega arith)) (λ e. e) f.limits in
        let all_drawn : length v.numbers ≡ v.passes → t ≡ v.drawn = λ all. sym k.tickets ∙ whole (λ u. u.drawn) (λ u. length u.numbers) s.views id v (λ j u e z. (k.fits j u e).idle z) at (k.numbers ∙ sym lim.0 ∙ sym all) in
        let w = yes_no (dec_le limit t) in (
          w.0,
          keeps,
          tt,
          subst (λ x. Kept (stepped s 0 x id m.1 w.0 keeps)) (sym next) w.2,
          ((λ i. (w.1 i, m.1)), all_drawn),
        )

    -- the seat id goes from v to w, with the words as they were
    same_words : (s : St) (k : Kept s) (i id : ℕ) (v w : View E B) (homes : List (Maybe (Option L))) → get_elem? s.views id ≡ some v
        → w.numbers ≡ v.numbers → w.drawn ≡ v.drawn → w.ticket ≡ v.ticket → w.full ≡ v.full
        → (total has_turn (set s.views id w) ≡ 0 → (l : L) × (get_elem? homes 0 ≡ some (some (Some l))) × (list l ≡ k.log) × (base_of l ≡ k.base))
        → Fits p k.base k.log (tix s) (srv s) w
        → Kept record { words = set s.words i (get_or s.words i 0); homes = homes; views = set s.views id w }
    same_words s k i id v w homes at same drew tick full home fits =
        let words : set s.words i (get_or s.words i 0) ≡ s.words = set-get_or s.words i 0 in
        let kept : Kept record { words = s.words; homes = homes; views = set s.views id w } = record {
          base = k.base;
          log = k.log;
          two_words = k.two_words;
          numbers = omega (arith, total-set (λ u. length u.numbers) s.views id v w at, k.numbers, ap length same);
          once = λ j. omega (arith, total-set (λ u. times j u.numbers) s.views id v w at, k.once j, ap (times j) same);
          tickets = omega (arith, total-set (λ u. u.drawn) s.views id v w at, k.tickets, drew);
          bound = omega (arith, k.bound, total-set over s.views id v w at, over_same);
          order = k.order;
          each = λ j. omega (arith, total-set (holds_ticket j) s.views id v w at, k.each j, ap (is_ticket j) tick);
          home = home;
          fits = λ j u e. ⊎_elim (λ q. subst (Fits p k.base k.log (tix s) (srv s)) q.1 fits) (λ q. k.fits j u q.1) (at_set s.views id j w u e);
        } in
        subst (λ ws. Kept record { words = ws; homes = homes; views = set s.views id w }) (sym words) kept
      where
        over_same : over w ≡ over v
        over_same = λ i. cond (is_some (full i)) (length (same i)) 0

    -- the log is at home where a pass has the ticket that is served and no turn yet
    at_home : (s : St) (k : Kept s) (id : ℕ) (v : View E B) → get_elem? s.views id ≡ some v → v.turn ≡ None → v.ticket ≡ Some (srv s) → total has_turn s.views ≡ 0
    at_home s k id v at idle tick =
        omega (
          arith,
          total_less has_turn (holds_ticket (srv s)) s.views id v (λ j u e. turn_holds p k.base k.log (tix s) (srv s) u (k.fits j u e)) at,
          k.each (srv s),
          at_most_one (srv s) (min (tix s) limit) (srv s),
          no_turn v idle,
          the_ticket (srv s) (srv s) v tick,
          hit (srv s) (srv s) refl,
        )
      where
        at_most_one : (a b c : ℕ) → within a b c ≤ 1
        at_most_one a b c = one (nat_le a c && nat_lt c b)
          where
            one : (x : Bool) → cond {A = ℕ} x 1 0 ≤ 1
            one true = omega arith
            one false = omega arith

    pub looks : (n id : ℕ) (m : At) → 0 < length m.0.numbers → m.0.turn ≡ None → Allows Kept n id m 1 (λ y. y) (Looks list base_of (step n 1 0 0 none) m)
    looks n id m live idle s k wide at _ = by (same_option m.0.ticket (srv s))
      where
        same_option : (o : Option ℕ) (r : ℕ) → Dec (o ≡ Some r)
        same_option None r = no (λ e. cc)
        same_option (Some t) r = dite (ℕ_discrete t r) (λ e. yes (ap Some e)) (λ ne. no (λ e. let q : t ≡ r = cc in ne q))

        by : Dec (m.0.ticket ≡ Some (srv s)) → (w : View E B) × (a : Act (Option L)) × Valid s.homes m.1 a × Kept (stepped s 1 (srv s) id m.1 w a) × Looks list base_of (step n 1 0 0 none) m (srv s) (w, carried_after m.1 a)
        by (no other) = (
          m.0,
          keeps,
          tt,
          same_words s k 1 id m.0 m.0 s.homes at refl refl refl refl (λ z. k.home (subst (λ vs. total has_turn vs ≡ 0) (set_again s.views id m.0 at) z)) (k.fits id m.0 at),
          ((λ _. refl), λ e. absurd (other e)),
        )
        by (yes mine) =
            let h = k.home (at_home s k id m.0 at idle mine) in
            let f = k.fits id m.0 at in
            let w : View E B = in_turn m.0 (list h.0) in
            let lim : (m.0.passes ≡ p) × (m.0.base ≡ Some k.base) = ⊎_elim (λ e. absurd (omega arith)) (λ e. e) f.limits in (
              w,
              takes 0 (Some h.0),
              h.1,
              same_words s k 1 id m.0 w (set s.homes 0 none) at refl refl refl refl
                  (λ z. absurd (omega (arith, z, term_le has_turn (set s.views id w) id w (set_over s.views id m.0 w at), a_turn w (list h.0) refl)))
                  record { limits = f.limits; seen = f.seen; met = f.met; below = f.below; grows = f.grows; turn = (h.2, mine); full = f.full; idle = f.idle },
              ((λ no. absurd (no mine)), λ _. (h.0, refl, subst (Follows m.0.numbers m.0.seen) (sym h.2) f.seen, lim.1 ∙ ap Some (sym h.3), subst (λ (x : ℕ × List (ℕ × E)). GrowsBelow x.0 m.0.seen x.1) (λ i. (sym lim.0 i, sym h.2 i)) (f.grows live))),
            )

    -- after a join: what both had seen is compared, and the count of tickets is found
    pub settles : (n id : ℕ) (m : At) → 0 < length m.0.numbers → Allows Kept n id m 0 (λ y. y) (Settles list base_of (step n 0 0 0 none) m)
    settles n id m live s k wide at _ =
        let v = m.0 in
        let f = k.fits id v at in
        let w : View E B = settled v in
        let lim : (v.passes ≡ p) × (v.base ≡ Some k.base) = ⊎_elim (λ e. absurd (omega arith)) (λ e. e) f.limits in (
          w,
          keeps,
          tt,
          same_words s k 0 id v w s.homes at refl refl refl refl
              (λ z. k.home (omega (arith, z, total-set has_turn s.views id v w at)))
              record { limits = f.limits; seen = f.seen; met = λ j q e. absurd (some-ne-none q (sym e)); below = f.below; grows = f.grows; turn = f.turn; full = f.full; idle = f.idle },
          (
            refl,
            (λ j q e. let t = f.met j q e in (nearer q.0 v.numbers q.1 v.seen k.log t.0 f.seen t.1, λ i x le there. omega (arith, lim.0, t.3 i x le (subst (λ l. get_elem? l i ≡ some x) (sym f.seen.1) (at_front v.seen f.seen.0 i x there))))),
            (λ all. sym k.tickets ∙ whole (λ u. u.drawn) (λ u. length u.numbers) s.views id v (λ j u e z. (k.fits j u e).idle z) at (k.numbers ∙ sym lim.0 ∙ sym all)),
            full v.full f.full,
          ),
        )
      where
        full : (o : Option ℕ) → IfSome o (λ x. (limit ≤ x) × (x < tix s)) → IfSome o (λ x. x < tix s)
        full None h = tt
        full (Some x) h = h.1

    held : L → List (ℕ × Option L) → L
    held d [] = d
    held d (c ∷ cs) = of c.1
      where
        of : Option L → L
        of None = d
        of (Some l) = l

    -- the turn is passed on, with one entry more or none
    passes_log : (n id : ℕ) (v : View E B) (l : L) (g : List (ℕ × E)) → 0 < n → 0 < length v.numbers → v.turn ≡ Some g → v.met ≡ [] → v.base ≡ Some (base_of l)
        → (list l ≡ g) ⊎ ((q : ℕ × E) × (list l ≡ g ++ q ∷ []) × (0 < times q.0 v.numbers))
        → (s : St) (k : Kept s) → length s.homes ≡ n → get_elem? s.views id ≡ some v
        → Kept (stepped s 1 (srv s + 1) id ((0, Some l) ∷ []) (passed_on v (list l)) gives)
    passes_log n id v l g room live turned settled_is base_is grown s k wide at =
        let r : ℕ = srv s in
        let t : ℕ = tix s in
        let h : ℕ = min t limit in
        let f = k.fits id v at in
        let mine : (g ≡ k.log) × (v.ticket ≡ Some r) = subst (λ o. IfSome o (λ x. (x ≡ k.log) × (v.ticket ≡ Some r))) turned f.turn in
        let w : View E B = passed_on v (list l) in
        let lim : (v.passes ≡ p) × (v.base ≡ Some k.base) = ⊎_elim (λ e. absurd (omega arith)) (λ e. e) f.limits in
        let under : r < h = below r h r (omega (arith, k.each r, term_le (holds_ticket r) s.views id v at, the_ticket r r v mine.1, hit r r refl)) in
        let here : get_or (set s.words 1 (r + 1)) 1 0 ≡ r + 1 = get_or-set_same s.words 1 (r + 1) 0 (omega (arith, k.two_words)) in
        let there : get_or (set s.words 1 (r + 1)) 0 0 ≡ t = get_or-set_other s.words 1 0 (r + 1) 0 (λ e. omega arith) in
        let based : base_of l ≡ k.base = same_base (sym base_is ∙ lim.1) in
        let others : (j : ℕ) (u : View E B) → j ≢ id → get_elem? s.views j ≡ some u → Fits p k.base (list l) t (r + 1) u = λ j u ne e.
        let fu = k.fits j u e in
        let none_there : u.turn ≡ None = turnless u r fu.turn (λ has. absurd (omega (arith, terms_le (holds_ticket r) s.views id j v u ne at e, k.each r, at_most r h r, the_ticket r r v mine.1, the_ticket r r u has, hit r r refl))) in
        let on : (ns : List ℕ) (seen : List (ℕ × E)) → ((x : ℕ) → times x ns ≤ times x u.numbers) → Follows ns seen k.log → Follows ns seen (list l) = λ ns seen part fo. ⊎_elim
        (λ q. subst (Follows ns seen) (sym mine.0 ∙ sym q) fo)
        (λ q. subst (Follows ns seen) (ap (λ x. x ++ q.0 ∷ []) (sym mine.0) ∙ sym q.1) (goes_on ns seen k.log q.0 (omega (arith, part q.0.0, terms_le (λ x. times q.0.0 x.numbers) s.views id j v u ne at e, k.once q.0.0, q.2)) fo))
        grown in
        let more : (seen : List (ℕ × E)) → GrowsBelow p seen k.log → GrowsBelow p seen (list l) = λ seen le. ⊎_elim
        (λ q. subst (GrowsBelow p seen) (sym mine.0 ∙ sym q) le)
        (λ q. subst (GrowsBelow p seen) (ap (λ x. x ++ q.0 ∷ []) (sym mine.0) ∙ sym q.1) (grows_by p seen k.log q.0 (f.below q.0.0 q.2) le))
        grown in
        record {
          limits = fu.limits;
          seen = on u.numbers u.seen (λ x. omega arith) fu.seen;
          met = λ i m a. let y = fu.met i m a in (on m.0 m.1 y.2 y.0, y.1, y.2, more m.1 y.3);
          below = fu.below;
          grows = λ some_number. more u.seen (fu.grows some_number);
          turn = subst (λ o. IfSome o (λ x. (x ≡ list l) × (u.ticket ≡ Some (r + 1)))) (sym none_there) tt;
          full = fu.full;
          idle = fu.idle;
        } in
        let me : Fits p k.base (list l) t (r + 1) w = record {
          limits = f.limits;
          seen = whole_log v.numbers (list l);
          met = λ i m a. absurd (some-ne-none m (sym (subst (λ x. get_elem? x i ≡ some m) settled_is a)));
          below = f.below;
          grows = λ _. grows_none p (list l);
          turn = tt;
          full = f.full;
          idle = f.idle;
        } in
        record {
          base = k.base;
          log = list l;
          two_words = length-set s.words 1 (r + 1) ∙ k.two_words;
          numbers = omega (arith, total-set (λ u. length u.numbers) s.views id v w at, k.numbers);
          once = λ j. omega (arith, total-set (λ u. times j u.numbers) s.views id v w at, k.once j);
          tickets = omega (arith, total-set (λ u. u.drawn) s.views id v w at, k.tickets, there);
          bound = omega (arith, k.bound, total-set over s.views id v w at, there);
          order = omega (arith, under, here, there);
          each = λ j. omega (arith, total-set (holds_ticket j) s.views id v w at, k.each j, the_ticket r j v mine.1, within_less r h j under, ap (λ (x : ℕ). within x h j) here, ap (λ (x : ℕ). within (get_or (set s.words 1 (r + 1)) 1 0) (min x limit) j) there);
          home = λ z. (l, set_here s.homes 0 (some (Some l)) (omega arith), refl, based);
          fits = λ j u e. subst (λ (x : ℕ × ℕ). Fits p k.base (list l) x.0 x.1 u) (λ i. (sym there i, sym here i)) (⊎_elim (λ q. subst (Fits p k.base (list l) t (r + 1)) q.1 me) (λ q. others j u q.0 q.1) (at_set s.views id j w u e));
        }
      where
        below : (a b c : ℕ) → 0 < within a b c → c < b
        below a b c h = dite (dec_le b c) (λ le. absurd (omega (arith, within_high a b c le))) (λ gt. omega arith)

        at_most : (a b c : ℕ) → within a b c ≤ 1
        at_most a b c = one (nat_le a c && nat_lt c b)
          where
            one : (x : Bool) → cond {A = ℕ} x 1 0 ≤ 1
            one true = omega arith
            one false = omega arith

        same_base : {a b : B} → Some a ≡ Some b → a ≡ b
        same_base e = cc

        turnless : (u : View E B) (r : ℕ) → IfSome u.turn (λ x. (x ≡ k.log) × (u.ticket ≡ Some r)) → (u.ticket ≡ Some r → ⊥) → u.turn ≡ None
        turnless u r h no_t = by u.turn h
          where
            by : (o : Option (List (ℕ × E))) → IfSome o (λ x. (x ≡ k.log) × (u.ticket ≡ Some r)) → o ≡ None
            by None h = refl
            by (Some x) h = absurd (no_t h.1)

    -- the ticket that is served is below the limit
    served : (s : St) (k : Kept s) (id : ℕ) (v : View E B) (g : List (ℕ × E)) → get_elem? s.views id ≡ some v → v.turn ≡ Some g → srv s < limit
    served s k id v g at turned =
        let mine : (g ≡ k.log) × (v.ticket ≡ Some (srv s)) = subst (λ o. IfSome o (λ x. (x ≡ k.log) × (v.ticket ≡ Some (srv s)))) turned (k.fits id v at).turn in
        below (srv s) (tix s) (srv s) (omega (arith, k.each (srv s), term_le (holds_ticket (srv s)) s.views id v at, the_ticket (srv s) (srv s) v mine.1, hit (srv s) (srv s) refl))
      where
        below : (a b c : ℕ) → 0 < within a (min b limit) c → c < limit
        below a b c h = dite (dec_le (min b limit) c) (λ le. absurd (omega (arith, within_high a (min b limit) c le))) (λ gt. omega arith)

    pub passes : (n id : ℕ) (m : At) (l : L) → 0 < n → 0 < length m.0.numbers → m.0.met ≡ [] → m.1 ≡ (0, Some l) ∷ [] → m.0.base ≡ Some (base_of l) → GoesOn m.0.numbers m.0.turn (list l)
        → Allows Kept n id m 1 (λ y. (y + 1) % 2 ^ 64) (Passes list base_of (step n 1 1 0 none) m)
    unfolding held
    passes n id m l room live settled_is out base_is on = by m.0.turn refl on
      where
        by : (o : Option (List (ℕ × E))) → m.0.turn ≡ o → GoesOn m.0.numbers o (list l) → Allows Kept n id m 1 (λ y. (y + 1) % 2 ^ 64) (Passes list base_of (step n 1 1 0 none) m)
        by None e h s k wide at _ = absurd h
        by (Some g) e grown s k wide at _ =
            let low = served s k id m.0 g at e in
            let next : (srv s + 1) % 2 ^ 64 ≡ srv s + 1 = omega arith in (
              passed_on m.0 (list l),
              gives,
              tt,
              subst (λ (x : ℕ × List (ℕ × Option L)). Kept (stepped s 1 x.0 id x.1 (passed_on m.0 (list l)) gives)) (λ i. (sym next i, sym out i)) (passes_log n id m.0 l g room live e settled_is base_is grown s k wide at),
              λ l' e'. λ i. (passed_on m.0 (list (ap (held l) (sym out ∙ e') i)), carried_after (out i) gives),
            )

    pub starts : (l : L) → IsKept list base_of p (opening (0 ∷ 0 ∷ []) (Some l ∷ []) (first_view p (base_of l) (list l)))
    starts l = record {
      base = base_of l;
      log = list l;
      two_words = refl;
      numbers = omega (arith, length-range 0 p);
      once = λ j. omega (arith, times-range 0 p j);
      tickets = refl;
      bound = omega arith;
      order = omega arith;
      each = λ j. sym (within_high 0 (min 0 limit) j (omega arith));
      home = λ z. (l, refl, refl, refl);
      fits = λ j u e. ⊎_elim (λ (x : get_elem? [] j ≡ some u). absurd (some-ne-none u (sym x))) (λ (t : first_view p (base_of l) (list l) ≡ u). subst (Fits p (base_of l) (list l) 0 0) t record {
        limits = inr (refl, refl);
        seen = whole_log (range 0 p) (list l);
        met = λ i m a. absurd (some-ne-none m (sym a));
        below = λ x some_times. range_below p x some_times;
        grows = λ _. grows_none p (list l);
        turn = tt;
        full = tt;
        idle = λ _. refl;
      }) (at_snoc [] (first_view p (base_of l) (list l)) u j e);
    }

    pub cuts : (id : ℕ) (v : View E B) (n k : ℕ) (ns : List ℕ) → v.numbers ≡ n ∷ k ∷ ns → v.drawn ≡ 0 → v.ticket ≡ None → v.turn ≡ None → v.full ≡ None → v.met ≡ []
        → Splits Kept id v (without_first v) (of_first v)
    cuts id v n k ns is drew tick idle unfull settled_is s h at =
        let w : View E B = without_first v in
        let u : View E B = of_first v in
        let f = h.fits id v at in
        let lim : (v.passes ≡ p) × (v.base ≡ Some h.base) = ⊎_elim (λ e. absurd (omega (arith, ap length is))) (λ e. e) f.limits in
        let both : (g : View E B → ℕ) → total g (set s.views id w ++ u ∷ []) + g v ≡ total g s.views + g w + g u = λ g. omega (arith, total-append g (set s.views id w) (u ∷ []), total-set g s.views id v w at) in
        let wn : w.numbers ≡ k ∷ ns = ap rest_of is in
        let un : u.numbers ≡ n ∷ [] = ap first_of is in
        let part : (ms : List ℕ) → ((x : ℕ) → times x ms ≤ times x v.numbers) → Follows ms v.seen h.log = λ ms le. (f.seen.0, f.seen.1, λ j q e. omega (arith, le q.0, f.seen.2 j q e)) in
        let sum : (x : ℕ) → times x w.numbers + times x u.numbers ≡ times x v.numbers = λ x. omega (arith, ap (times x) wn, ap (times x) un, ap (times x) is, times-append x (n ∷ []) (k ∷ ns), times-append x (k ∷ []) ns) in
        let wf : Fits p h.base h.log (tix s) (srv s) w = record {
          limits = inr lim;
          seen = part w.numbers (λ x. omega (arith, sum x));
          met = λ j q e. absurd (some-ne-none q (sym (subst (λ x. get_elem? x j ≡ some q) settled_is e)));
          below = λ x some_times. f.below x (omega (arith, sum x, some_times));
          grows = λ _. f.grows (omega (arith, ap length is));
          turn = f.turn;
          full = f.full;
          idle = λ z. drew;
        } in
        let uf : Fits p h.base h.log (tix s) (srv s) u = record {
          limits = inr lim;
          seen = part u.numbers (λ x. omega (arith, sum x));
          met = λ j q e. absurd (some-ne-none q (sym e));
          below = λ x some_times. f.below x (omega (arith, sum x, some_times));
          grows = λ _. f.grows (omega (arith, ap length is));
          turn = tt;
          full = tt;
          idle = λ z. refl;
        } in
        record {
          base = h.base;
          log = h.log;
          two_words = h.two_words;
          numbers = omega (arith, both (λ x. length x.numbers), h.numbers, ap length wn, ap length un, ap length is);
          once = λ j. omega (arith, both (λ x. times j x.numbers), h.once j, sum j);
          tickets = omega (arith, both (λ x. x.drawn), h.tickets);
          bound = omega (arith, both over, h.bound, not_full v unfull, not_full w unfull, not_full u refl);
          order = h.order;
          each = λ j. omega (arith, both (holds_ticket j), h.each j, no_ticket j v tick, no_ticket j w tick, no_ticket j u refl);
          home = λ z. h.home (omega (arith, z, both has_turn, no_turn v idle, no_turn w idle, no_turn u refl));
          fits = λ j y e. ⊎_elim
              (λ t. ⊎_elim (λ q. subst (Fits p h.base h.log (tix s) (srv s)) q.1 wf) (λ q. h.fits j y q.1) (at_set s.views id j w y t))
              (λ t. subst (Fits p h.base h.log (tix s) (srv s)) t uf)
              (at_snoc (set s.views id w) u y j e);
        }

    over_joined : (a b : ℕ) (o q : Option ℕ) → cond (is_some o) a 0 + cond (is_some q) b 0 ≤ cond (is_some (first_some o q)) (a + b) 0
    over_joined a b None None = omega arith
    over_joined a b None (Some n) = omega arith
    over_joined a b (Some m) None = omega arith
    over_joined a b (Some m) (Some n) = omega arith

    pub joins : (id : ℕ) (v : View E B) (other : ℕ) (w : View E B) → 0 < length v.numbers → 0 < length w.numbers → v.ticket ≡ None → v.turn ≡ None → w.ticket ≡ None → w.turn ≡ None → Joins Kept id v other w (joined v w) spent
    joins id v other w live too v₁ v₂ w₁ w₂ s h at apart them =
        let j : View E B = joined v w in
        let vs : List (View E B) = set s.views id j in
        let there : get_elem? s.views other ≡ some w = sym (set_else s.views id other j apart) ∙ them in
        let f = h.fits id v at in
        let g = h.fits other w there in
        let lim : (v.passes ≡ p) × (v.base ≡ Some h.base) = ⊎_elim (λ e. absurd (omega arith)) (λ e. e) f.limits in
        let both : (q : View E B → ℕ) → total q (set vs other spent) + q w + q v ≡ total q s.views + q j + q spent = λ q. omega (arith, total-set q s.views id v j at, total-set q vs other w spent them) in
        let sum : (k : ℕ) → times k (v.numbers ++ w.numbers) ≡ times k v.numbers + times k w.numbers = λ k. times-append k v.numbers w.numbers in
        let seen : (d : Dec (length w.seen ≤ length v.seen)) → Follows (v.numbers ++ w.numbers) j.seen h.log × (length v.seen ≤ length j.seen) × (length w.seen ≤ length j.seen) = λ d. dite d
        (λ le. let e : j.seen ≡ v.seen = ap (λ b. cond b v.seen w.seen) (le-leb (length w.seen) (length v.seen) le) in
        (subst (λ x. Follows (v.numbers ++ w.numbers) x h.log) (sym e) (both_follow w.numbers v.numbers (v.numbers ++ w.numbers) w.seen v.seen h.log (λ k. omega (arith, sum k)) g.seen f.seen le), omega (arith, ap length e), omega (arith, ap length e)))
        (λ gt. let e : j.seen ≡ w.seen = ap (λ b. cond b v.seen w.seen) (leb-no (length w.seen) (length v.seen) (omega arith)) in
        (subst (λ x. Follows (v.numbers ++ w.numbers) x h.log) (sym e) (both_follow v.numbers w.numbers (v.numbers ++ w.numbers) v.seen w.seen h.log sum f.seen g.seen (omega arith)), omega (arith, ap length e), omega (arith, ap length e))) in
        let sees = seen (dec_le (length w.seen) (length v.seen)) in
        let mets : length v.seen ≤ length j.seen → length w.seen ≤ length j.seen → (i : ℕ) (m : List ℕ × List (ℕ × E)) → get_elem? j.met i ≡ some m → Follows m.0 m.1 h.log × (length m.1 ≤ length j.seen) × ((k : ℕ) → times k m.0 ≤ times k j.numbers) × GrowsBelow p m.1 h.log = λ a b. two j v w h.log f.seen g.seen a b (λ k. omega (arith, sum k)) (λ k. omega (arith, sum k)) (f.grows live) (g.grows too) in
        let jf : Fits p h.base h.log (tix s) (srv s) j = record {
          limits = inr lim;
          seen = sees.0;
          met = mets sees.1 sees.2;
          below = λ k some_times. ⊎_elim (λ (le : times k v.numbers < 1). g.below k (omega (arith, sum k, some_times))) (λ (le : 1 ≤ times k v.numbers). f.below k (omega arith)) (cases_lt (times k v.numbers) 1);
          grows = λ _ i x le there. f.grows live i x (omega (arith, sees.1, le)) there;
          turn = f.turn;
          full = fulls v.full w.full f.full g.full;
          idle = λ z. absurd (omega (arith, z, length-append v.numbers w.numbers));
        } in
        record {
          base = h.base;
          log = h.log;
          two_words = h.two_words;
          numbers = omega (arith, both (λ x. length x.numbers), h.numbers, length-append v.numbers w.numbers);
          once = λ k. omega (arith, both (λ x. times k x.numbers), h.once k, sum k);
          tickets = omega (arith, both (λ x. x.drawn), h.tickets);
          bound = omega (arith, both over, h.bound, over_joined (length v.numbers) (length w.numbers) v.full w.full, ap (λ (n : ℕ). cond (is_some (first_some v.full w.full)) n 0) (length-append v.numbers w.numbers));
          order = h.order;
          each = λ k. omega (arith, both (holds_ticket k), h.each k, no_ticket k v v₁, no_ticket k w w₁, no_ticket k j v₁);
          home = λ z. h.home (omega (arith, z, both has_turn, no_turn v v₂, no_turn w w₂, no_turn j v₂));
          fits = λ k y e. ⊎_elim
              (λ q. subst (Fits p h.base h.log (tix s) (srv s)) q.1 blank)
              (λ q. ⊎_elim (λ x. subst (Fits p h.base h.log (tix s) (srv s)) x.1 jf) (λ x. h.fits k y x.1) (at_set s.views id k j y q.1))
              (at_set vs other k spent y e);
        }
      where
        blank : Fits p h.base h.log (tix s) (srv s) spent
        blank = record {
          limits = inl refl;
          seen = (h.log, refl, λ i q e. refl);
          met = λ i q e. absurd (some-ne-none q (sym e));
          below = λ k some_times. absurd (omega (arith, some_times));
          grows = λ none_there. absurd (omega (arith, none_there));
          turn = tt;
          full = tt;
          idle = λ z. refl;
        }

        two : (j v w : View E B) (log : List (ℕ × E)) → Follows v.numbers v.seen log → Follows w.numbers w.seen log → length v.seen ≤ length j.seen → length w.seen ≤ length j.seen
            → ((k : ℕ) → times k v.numbers ≤ times k j.numbers) → ((k : ℕ) → times k w.numbers ≤ times k j.numbers) → GrowsBelow p v.seen log → GrowsBelow p w.seen log
            → (i : ℕ) (m : List ℕ × List (ℕ × E)) → get_elem? ((v.numbers, v.seen) ∷ (w.numbers, w.seen) ∷ []) i ≡ some m → Follows m.0 m.1 log × (length m.1 ≤ length j.seen) × ((k : ℕ) → times k m.0 ≤ times k j.numbers) × GrowsBelow p m.1 log
        two j v w log a b c d x y gv gw zero m e = let P : List ℕ × List (ℕ × E) → Type 0 = λ q. Follows q.0 q.1 log × (length q.1 ≤ length j.seen) × ((k : ℕ) → times k q.0 ≤ times k j.numbers) × GrowsBelow p q.1 log in subst P (some-injective (v.numbers, v.seen) m e) (a, c, x, gv)
        two j v w log a b c d x y gv gw (suc zero) m e = let P : List ℕ × List (ℕ × E) → Type 0 = λ q. Follows q.0 q.1 log × (length q.1 ≤ length j.seen) × ((k : ℕ) → times k q.0 ≤ times k j.numbers) × GrowsBelow p q.1 log in subst P (some-injective (w.numbers, w.seen) m e) (b, d, y, gw)
        two j v w log a b c d x y gv gw (suc (suc i)) m e = absurd (some-ne-none m (sym e))

        fulls : (o q : Option ℕ) → IfSome o (λ n. (limit ≤ n) × (n < tix s)) → IfSome q (λ n. (limit ≤ n) × (n < tix s)) → IfSome (first_some o q) (λ n. (limit ≤ n) × (n < tix s))
        fulls None q a b = b
        fulls (Some n) q a b = a

    -- what the seat has once the log is put back
    put : (m m' : At) (held : Option L) (l : L) → m.1 ≡ (0, held) ∷ [] → m' ≡ (m.0, (0, Some l) ∷ rest m.1) → m' ≡ (m.0, (0, Some l) ∷ [])
    put m m' held l out e = e ∙ (λ i. (m.0, (0, Some l) ∷ rest (out i)))

    pub passes_at : (n id : ℕ) (m m' : At) (held : Option L) (l : L) → m.1 ≡ (0, held) ∷ [] → m' ≡ (m.0, (0, Some l) ∷ rest m.1) → 0 < n → 0 < length m.0.numbers → m.0.met ≡ [] → m.0.base ≡ Some (base_of l) → GoesOn m.0.numbers m.0.turn (list l)
        → Allows Kept n id m' 1 (λ y. (y + 1) % 2 ^ 64) (Passes list base_of (step n 1 1 0 none) m')
    passes_at n id m m' held l out e room live settled_is base_is on =
        subst (λ (x : At). Allows Kept n id x 1 (λ y. (y + 1) % 2 ^ 64) (Passes list base_of (step n 1 1 0 none) x)) (sym (put m m' held l out e)) (passes n id (m.0, (0, Some l) ∷ []) l room live settled_is refl base_is on)

    pub passed : (st : Step (Option L)) (m m' n : At) (held : Option L) (l : L) (r : ℕ) → m.1 ≡ (0, held) ∷ [] → m' ≡ (m.0, (0, Some l) ∷ rest m.1) → Passes list base_of st m' r n → n ≡ (passed_on m.0 (list l), [])
    passed st m m' n held l r out e told = let q = put m m' held l out e in told l (ap (λ (x : At). x.1) q) ∙ ap (λ (x : At). (passed_on x.0 (list l), [])) q

    -- what the seat has where the look found its ticket
    pub found_log : (st : Step (Option L)) (m₀ m n : At) (t r : ℕ) → m ≡ m₀ → m₀.1 ≡ [] → m₀.0.ticket ≡ Some t → r ≡ t → Looks list base_of st m r n
        → (l : L) × (n ≡ (in_turn m₀.0 (list l), (0, Some l) ∷ [])) × Follows m₀.0.numbers m₀.0.seen (list l) × (m₀.0.base ≡ Some (base_of l)) × GrowsBelow m₀.0.passes m₀.0.seen (list l)
    found_log st m₀ m n t r same empty tick hit_is told = subst (λ (x : At). Looks list base_of st x r n → (l : L) × (n ≡ (in_turn m₀.0 (list l), (0, Some l) ∷ [])) × Follows m₀.0.numbers m₀.0.seen (list l) × (m₀.0.base ≡ Some (base_of l)) × GrowsBelow m₀.0.passes m₀.0.seen (list l)) (sym same)
        (λ says. let t = says.1 (tick ∙ ap Some (sym hit_is)) in (t.0, t.1 ∙ (λ i. (in_turn m₀.0 (list t.0), (0, Some t.0) ∷ empty i)), t.2, t.3, t.4)) told

    -- and once the log is taken out
    pub taken : (v : View E B) (n n' : At) (l : L) (got : Option L) (x : L) → n ≡ (in_turn v (list l), (0, Some l) ∷ []) → n.1 ≡ (0, got) ∷ rest n.1 → got ≡ Some x → n' ≡ (n.0, (0, None) ∷ rest n.1)
        → (l ≡ x) × (n' ≡ (in_turn v (list x), (0, None) ∷ []))
    unfolding held
    taken v n n' l got x e₁ e₂ e₃ e₄ =
        let both : (0, Some l) ∷ [] ≡ (0, Some x) ∷ [] = sym (ap (λ (a : At). a.1) e₁) ∙ e₂ ∙ (λ i. (0, e₃ i) ∷ rest (e₁ i).1) in
        let same : l ≡ x = ap (held l) both in
        (same, e₄ ∙ (λ i. ((e₁ i).0, (0, None) ∷ rest (e₁ i).1)) ∙ (λ i. (in_turn v (list (same i)), (0, None) ∷ [])))
