-- A pass that draws alone.
use Rattle.std.proofs.Common.{◌≡◌, ℕ, ◌+◌, ◌<◌, ◌≤◌, [], ◌∷◌, ◌++◌, length, sym, ap, ◌∙◌, arith, Some, None, Result, Ok, Err, IfOk, IfErr, MatchResult}
use Rattle.std.specs.List.{range_with_len}
use Rattle.std.proofs.lemmas.List.FromFn.{length-range_with_len}
use Rattle.dn_leaf.specs.Drawer.{DrawerId, PassView, IsSamePass}
use Rattle.dn_leaf.specs.declared.drawer.Exhausted.{Exhausted}
use Rattle.dn_roster.proofs.DealingLemmas.{range-more}

abbrev pub drawn_below : DrawerId → ℕ → PassView
drawn_below d n = record { drawer = d; stands = 1; draws = range_with_len 0 n; seen = None }

pub one_drawn : (d : DrawerId) (n : ℕ) (old new : PassView) (r : Result ℕ Exhausted)
    → old ≡ drawn_below d n → n < d.count → d.passes ≡ 1 → IsSamePass old new
    → IfOk r (λ q. (q < d.count) × (new.draws ≡ old.draws ++ q ∷ []) × (old.seen ≡ None) × (new.seen ≡ None))
    → IfErr r (λ e. (d.count ≤ e.seen) × (new.draws ≡ old.draws) × (new.seen ≡ Some e.seen))
    → (old.stands ≡ d.passes → old.seen ≡ None → MatchResult r (λ q. q ≡ length old.draws) (λ e. e.seen ≡ length old.draws))
    → new ≡ drawn_below d (n + 1)
one_drawn d n old new (Ok q) was few alone same drawn failed in_order =
    let q_is : q ≡ n = in_order (ap (λ p. p.stands) was ∙ sym alone) (ap (λ p. p.seen) was) ∙ ap (λ p. length p.draws) was ∙ length-range_with_len 0 n in
    let drawer : new.drawer ≡ d = same.0 ∙ ap (λ p. p.drawer) was in
    let stands : new.stands ≡ 1 = same.1 ∙ ap (λ p. p.stands) was in
    let draws : new.draws ≡ range_with_len 0 (n + 1) = drawn.1 ∙ (λ i. (was i).draws ++ q_is i ∷ []) ∙ sym (range-more n) in
    λ i. record { drawer = drawer i; stands = stands i; draws = draws i; seen = drawn.3 i }
one_drawn d n old new (Err e) was few alone same drawn failed in_order =
    let seen : e.seen ≡ n = in_order (ap (λ p. p.stands) was ∙ sym alone) (ap (λ p. p.seen) was) ∙ ap (λ p. length p.draws) was ∙ length-range_with_len 0 n in
    absurd (omega (arith, failed.0, seen))
