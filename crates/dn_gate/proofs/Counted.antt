-- A pass that stands for all finds as many words marked as its closing counts.
use Rattle.std.proofs.Common.{◌≡◌, ℕ, zero, suc, ◌+◌, ◌<◌, ◌≤◌, List, [], ◌∷◌, length, min, refl, sym, ap, subst, ◌∙◌, arith, Bool, true, false, cond, is_none, IfSome, MatchOption, Option, Some, None}
use mathlib.Core.Logic.{dite}
use mathlib.Core.Option.{some}
use native.Mathlib.Decide.{ℕ_discrete}
use lib.ListN.{get_elem?}
use Rattle.atomic_table.specs.Table.{Step}
use Rattle.atomic_table.specs.Seated.{TableId}
use Rattle.dn_gate.specs.Draws.{Draw}
use Rattle.dn_counts.specs.Counts.{total, equal, once_below}
use Rattle.dn_gate.specs.Rule.{At, closed, included_of, IsBefore, IsTold, includes, puts, marks_upto, view, IsSettled, Settles}
use Rattle.dn_gate.specs.Pass.{GateId, PassView, pass_view, as_view, IsReady}
use Rattle.dn_gate.specs.declared.view.View.{View}
use Rattle.dn_counts.proofs.Sums.{hit, miss, below_more, below_yes, below_no}

module _ {A : Type 0} where
  pub total_both : (f g h : A → ℕ) → ((x : A) → f x + g x ≡ h x) → (l : List A) → total f l + total g l ≡ total h l
  total_both f g h e [] = refl
  total_both f g h e (x ∷ xs) = omega (arith, e x, total_both f g h e xs)

  total_same : (f g : A → ℕ) (l : List A) → ((j : ℕ) (x : A) → get_elem? l j ≡ some x → f x ≡ g x) → total f l ≡ total g l
  total_same f g [] h = refl
  total_same f g (x ∷ xs) h = omega (arith, h 0 x refl, total_same f g xs (λ j. h (suc j)))

pub equal_sym : (x y : ℕ) → equal x y ≡ equal y x
equal_sym x y = dite (ℕ_discrete x y)
    (λ e. hit x y e ∙ sym (hit y x (sym e)))
    (λ ne. miss x y ne ∙ sym (miss y x (λ e. ne (sym e))))

-- 1 where the draw is included and its client is below n; where it is included
abbrev pub inside_of : ℕ → Draw → ℕ
inside_of n d = cond (is_none d.late) (once_below d.client n) 0

is_in : Draw → ℕ
is_in d = cond (is_none d.late) 1 0

pub inside_more : (n : ℕ) (d : Draw) → inside_of n d + included_of n d ≡ inside_of (n + 1) d
inside_more n d = by (is_none d.late)
  where
    by : (b : Bool) → cond b (once_below d.client n) 0 + cond b (equal d.client n) 0 ≡ cond b (once_below d.client (n + 1)) 0
    by true = omega (arith, below_more d.client n, equal_sym d.client n)
    by false = refl

inside_none : (d : Draw) → inside_of 0 d ≡ 0
inside_none d = by (is_none d.late)
  where
    by : (b : Bool) → cond b (once_below d.client 0) 0 ≡ 0
    by true = below_no d.client 0 (omega arith)
    by false = refl

inside_all : (n : ℕ) (d : Draw) → d.client < n → inside_of n d ≡ is_in d
unfolding is_in
inside_all n d lt = by (is_none d.late)
  where
    by : (b : Bool) → cond b (once_below d.client n) 0 ≡ cond {A = ℕ} b 1 0
    by true = below_yes d.client n lt
    by false = refl

total_none : (ds : List Draw) → total (inside_of 0) ds ≡ 0
total_none [] = refl
total_none (d ∷ ds) = omega (arith, inside_none d, total_none ds)

-- where places run on from a, as many draws are included as there are places below the count
counted : (ds : List Draw) (a count : ℕ) → ((j : ℕ) (d : Draw) → get_elem? ds j ≡ some d → d.place ≡ a + j) → ((j : ℕ) (d : Draw) → get_elem? ds j ≡ some d → IsTold (Some count) d) → total is_in ds + min a count ≡ min (a + length ds) count
unfolding is_in
counted [] a count places told = omega arith
counted (d ∷ ds) a count places told =
    let place : d.place ≡ a = omega (arith, places 0 d refl) in
    let more = counted ds (a + 1) count (λ j e at. omega (arith, places (suc j) e at)) (λ j. told (suc j)) in
    by d.late (told 0 d refl) place more
  where
    same : {x : ℕ} → Some count ≡ Some x → count ≡ x
    same e = cc

    by : (o : Option ℕ) → MatchOption o (IsBefore d.place (Some count)) (λ seen. (closed ≤ seen) × ((c : ℕ) × (Some count ≡ Some c) × (c ≤ d.place))) → d.place ≡ a → total is_in ds + min (a + 1) count ≡ min (a + 1 + length ds) count
        → cond {A = ℕ} (is_none o) 1 0 + total is_in ds + min a count ≡ min (a + suc (length ds)) count
    by None h place more = omega (arith, h, place, more)
    by (Some seen) h place more = omega (arith, h.1.2, same h.1.1, place, more)

module _ {T : Type 0} where
  marks_is : (v : View T) → ((i : ℕ) → puts i v ≡ includes i v) → (n : ℕ) → marks_upto v n ≡ total (inside_of n) v.draws
  marks_is v values zero = sym (total_none v.draws)
  marks_is v values (suc n) = let e : n + 1 ≡ suc n = omega arith in omega (arith, marks_is v values n, values n, total_both (inside_of n) (included_of n) (inside_of (n + 1)) (inside_more n) v.draws, ap (λ (k : ℕ). total (inside_of k) v.draws) e)

  pub marks_all : (v : View T) (count : ℕ) → IsSettled v → v.closing ≡ Some count → marks_upto v v.clients ≡ count
  marks_all v count w closing =
      let long : count ≤ length v.draws = subst (λ o. IfSome o (λ c. c ≤ length v.draws)) closing w.cut in
      omega (
        arith,
        long,
        marks_is v w.values v.clients,
        total_same (inside_of v.clients) is_in v.draws (λ j d at. inside_all v.clients d (w.inside j d at)),
        counted v.draws 0 count (λ j d at. w.places j d at ∙ omega arith) (λ j d at. subst (λ o. IsTold o d) closing (w.told j d at)),
      )

  -- what a pass that stands for all knows after a load by which it settles
  pub settled : (st : Step (Option T)) (t : TableId) (s found : ℕ) (m n : At T) (p : PassView T) (q : GateId) → pass_view t s m ≡ p → p.gate ≡ q → IsReady p → Settles st m found n → length p.numbers ≡ q.passes → IsSettled m.0
  settled st t s found m n p q view_is gate ready told all =
      told.2 (ap (λ (x : PassView T). length x.numbers) view_is ∙ all ∙ sym (ap (λ (x : GateId). x.passes) (ap (λ (x : PassView T). x.gate) view_is ∙ gate)))
      (ap (λ (x : PassView T). x.claim) view_is ∙ ready.0, ap (λ (x : PassView T). x.unmarked) view_is ∙ ready.1)

  -- the right to take values and the number of closings are no part of it
  abbrev pub plain : View T → View T
  plain v = view v.passes v.clients v.before v.numbers v.claim v.unmarked v.draws v.values v.repeats v.closing v.looked v.taken 0 v.refused 0

  pub settled_plain : (v : View T) → IsSettled v → IsSettled (plain v)
  settled_plain v w = record { places = w.places; inside = w.inside; told = w.told; cut = w.cut; once = w.once; repeats = w.repeats; numbered = w.numbered; values = w.values; refused = w.refused }

  pub settled_view : (t : TableId) (s : ℕ) (m : At T) (p : PassView T) → pass_view t s m ≡ p → IsSettled m.0 → IsSettled (as_view p)
  settled_view t s m p view_is w = subst (λ (x : PassView T). IsSettled (as_view x)) view_is (settled_plain m.0 w)

  -- so many words were found marked as the closing counts
  pub none_missing : (t : TableId) (s clients count marked : ℕ) (m n : At T) (p : PassView T) (q : GateId) → pass_view t s m ≡ p → p.gate ≡ q → p.closing ≡ Some count → length p.numbers ≡ q.passes → clients ≡ q.clients → n ≡ m → IsSettled m.0
      → (length n.0.numbers ≡ n.0.passes → marked ≡ marks_upto n.0 clients) → marked ≡ count
  none_missing t s clients count marked m n p q view_is gate closing all wide same w told =
      let gate' = ap (λ (x : PassView T). x.gate) view_is ∙ gate in
      let marks : marked ≡ marks_upto m.0 clients = told (ap (λ (x : At T). length x.0.numbers) same ∙ ap (λ (x : PassView T). length x.numbers) view_is ∙ all ∙ sym (ap (λ (x : GateId). x.passes) gate') ∙ sym (ap (λ (x : At T). x.0.passes) same)) ∙ ap (λ (x : At T). marks_upto x.0 clients) same in
      marks ∙ ap (marks_upto m.0) (wide ∙ sym (ap (λ (x : GateId). x.clients) gate')) ∙ marks_all m.0 count w (ap (λ (x : PassView T). x.closing) view_is ∙ closing)
