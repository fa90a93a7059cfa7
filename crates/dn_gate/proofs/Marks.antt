-- No more words are marked than the closing counts.
use Rattle.std.proofs.Common.{◌≡◌, ℕ, zero, suc, ◌+◌, ◌<◌, ◌≤◌, List, [], ◌∷◌, length, get_or, refl, ap, subst, arith, Bool, true, false, cond, nat_lt, is_none, lt-ltb, MatchOption, Option, Some, None, ◌==◌}
use mathlib.Core.Logic.{dite}
use mathlib.Core.Option.{some}
use native.Mathlib.Decide.{dec_le}
use lib.ListN.{get_elem?}
use Rattle.atomic_table.specs.Table.{State}
use Rattle.dn_gate.specs.Draws.{Draw}
use Rattle.dn_counts.specs.Counts.{total, once_below}
use Rattle.dn_gate.specs.Rule.{closed, many, at_place, included_of, includes, puts, sees, IsBefore, IsTold, IsKept}
use Rattle.dn_gate.specs.declared.view.View.{View}
use Rattle.dn_counts.proofs.Sums.{term_le, below_yes, below_no, below_more}
use Rattle.dn_gate.proofs.Counted.{total_both, equal_sym, inside_of, inside_more}

pub once_most : (b : Bool) → cond {A = ℕ} b 1 0 ≤ 1
once_most true = omega arith
once_most false = omega arith

pub once_yes : (x : ℕ) → 0 < x → cond {A = ℕ} (nat_lt 0 x) 1 0 ≡ 1
once_yes x h = ap (λ b. cond {A = ℕ} b 1 0) (lt-ltb 0 x h)

pub once_no : (x : ℕ) → x ≡ 0 → cond {A = ℕ} (nat_lt 0 x) 1 0 ≡ 0
once_no x e = ap (λ (y : ℕ). cond {A = ℕ} (nat_lt 0 y) 1 0) e

pub once_le : (x y : ℕ) → x ≤ y → cond {A = ℕ} (nat_lt 0 x) 1 0 ≤ cond {A = ℕ} (nat_lt 0 y) 1 0
once_le x y h = dite (dec_le x 0)
    (λ z. omega (arith, once_no x (omega arith)))
    (λ p. omega (arith, once_yes x (omega arith), once_yes y (omega arith)))

pub many_le : (f g : ℕ → ℕ) → ((i : ℕ) → f i ≤ g i) → (n : ℕ) → many f n ≤ many g n
many_le f g h zero = omega arith
many_le f g h (suc n) = omega (arith, many_le f g h n, once_le (f n) (g n) (h n))

pub many_more : (f : ℕ → ℕ) (n : ℕ) → many f (n + 1) ≡ many f n + cond {A = ℕ} (nat_lt 0 (f n)) 1 0
many_more f n = let e : n + 1 ≡ suc n = omega arith in ap (many f) e

module _ {A : Type 0} where
  total_zero : (f : A → ℕ) → ((x : A) → f x ≡ 0) → (l : List A) → total f l ≡ 0
  total_zero f h [] = refl
  total_zero f h (x ∷ xs) = omega (arith, h x, total_zero f h xs)

  total_le_at : (f g : A → ℕ) (l : List A) → ((j : ℕ) (x : A) → get_elem? l j ≡ some x → f x ≤ g x) → total f l ≤ total g l
  total_le_at f g [] h = omega arith
  total_le_at f g (x ∷ xs) h = omega (arith, h 0 x refl, total_le_at f g xs (λ j. h (suc j)))

-- 1 where the draw's place is below n
abbrev below_of : ℕ → Draw → ℕ
below_of n d = once_below d.place n

below_of_more : (n : ℕ) (d : Draw) → below_of n d + at_place n d ≡ below_of (n + 1) d
below_of_more n d = omega (arith, below_more d.place n, equal_sym d.place n)

-- an included draw is before the closing
inside_le : (n count : ℕ) (d : Draw) → IsTold (Some count) d → inside_of n d ≤ below_of count d
inside_le n count d told = by d.late told
  where
    by : (o : Option ℕ) → MatchOption o (IsBefore d.place (Some count)) (λ seen. (closed ≤ seen) × ((c : ℕ) × (Some count ≡ Some c) × (c ≤ d.place))) → cond {A = ℕ} (is_none o) (once_below d.client n) 0 ≤ below_of count d
    by None h = omega (arith, once_most (nat_lt d.client n), below_yes d.place count h)
    by (Some seen) h = omega arith

module _ (T : Type 0) (clients passes : ℕ) (before : List ℕ) (s : State (Option T) (View T)) (k : IsKept clients passes before s) where
  -- no more draws are before a place than there are places before it
  below_all : (n : ℕ) → total (λ v. total (below_of n) v.draws) s.views ≤ n
  below_all zero = omega (arith, total_zero (λ v. total (below_of 0) v.draws) (λ v. total_zero (below_of 0) (λ d. below_no d.place 0 (omega arith)) v.draws) s.views)
  below_all (suc n) =
      let e : n + 1 ≡ suc n = omega arith in
      let both = total_both (λ v. total (below_of n) v.draws) (λ v. total (at_place n) v.draws) (λ v. total (below_of (n + 1)) v.draws) (λ v. total_both (below_of n) (at_place n) (below_of (n + 1)) (below_of_more n) v.draws) s.views in
      omega (arith, below_all n, k.places n, once_most (nat_lt n (total (λ v. length v.draws) s.views)), both, ap (λ (c : ℕ). total (λ v. total (below_of c) v.draws) s.views) e)

  puts_included : (i : ℕ) → total (puts i) s.views ≤ total (includes i) s.views
  puts_included i = total_le_at (puts i) (includes i) s.views (λ j v at. omega (arith, (k.fits j v at).marks i))

  -- a client whose word was found marked has an included draw
  seen_included : (id : ℕ) (v : View T) → get_elem? s.views id ≡ some v → (i : ℕ) → i < clients → cond {A = ℕ} (nat_lt 0 (sees i v)) 1 0 ≤ total (includes i) s.views
  seen_included id v at i inside = dite (dec_le (sees i v) 0)
      (λ z. omega (arith, once_no (sees i v) (omega arith)))
      (λ p.
      let three : get_or s.words (i + 1) 0 ≡ 3 = k.stays i inside (omega (arith, p, term_le (sees i) s.views id v at)) in
      omega (arith, once_most (nat_lt 0 (sees i v)), k.marked i inside, ap (λ (x : ℕ). cond {A = ℕ} (x == 3) 1 0) three, puts_included i))

  seen_inside : (id : ℕ) (v : View T) → get_elem? s.views id ≡ some v → (n : ℕ) → n ≤ clients → many (λ i. sees i v) n ≤ total (λ u. total (inside_of n) u.draws) s.views
  seen_inside id v at zero h = omega arith
  seen_inside id v at (suc n) h =
      let e : n + 1 ≡ suc n = omega arith in
      let both = total_both (λ u. total (inside_of n) u.draws) (includes n) (λ u. total (inside_of (n + 1)) u.draws) (λ u. total_both (inside_of n) (included_of n) (inside_of (n + 1)) (inside_more n) u.draws) s.views in
      omega (arith, seen_inside id v at n (omega arith), seen_included id v at n (omega arith), both, ap (λ (c : ℕ). total (λ u. total (inside_of c) u.draws) s.views) e)

  -- a view found no more clients' words marked than the closing counts
  pub few_seen : (id : ℕ) (v : View T) (count : ℕ) → get_elem? s.views id ≡ some v → k.cut ≡ Some count → (n : ℕ) → n ≤ clients → many (λ i. sees i v) n ≤ count
  few_seen id v count at cut n h =
      let fewer = total_le_at (λ u. total (inside_of n) u.draws) (λ u. total (below_of count) u.draws) s.views (λ j u there. total_le_at (inside_of n) (below_of count) u.draws (λ o d e. inside_le n count d (subst (λ c. IsTold c d) cut ((k.fits j u there).told o d e)))) in
      omega (arith, seen_inside id v at n h, fewer, below_all count)
