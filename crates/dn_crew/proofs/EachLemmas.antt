-- What stands in the history of a race, counted.
use Rattle.std.proofs.Common.{◌≡◌, ℕ, suc, ◌+◌, ◌<◌, ◌≤◌, List, [], ◌∷◌, ◌++◌, length, map, get_or, Bool, cond, ◌==◌, refl, sym, ap, ◌∙◌, arith, count_by}
use Rattle.dn_counts.specs.Counts.{total, equal}
use Rattle.dn_counts.proofs.Sums.{total-append}
use Rattle.dn_told.specs.Window.{WindowEvent, is_submit_of, is_close}
use Rattle.dn_wire.specs.declared.ids.ClientId.{ClientId}
use Rattle.dn_crew.specs.declared.order.Ordered.{Ordered}
use Rattle.dn_crew.specs.declared.order.Ordered.TheVariants.{Submit, Close}
use Rattle.dn_crew.specs.declared.sharing.Drawn.{Drawn}
use Rattle.dn_crew.specs.Race.{client_of, numbers_of, event_of, submitted}
use Rattle.dn_crew.specs.Shares.{placed_of, repeat_of}
use Rattle.dn_crew.proofs.Totals.{total_sum, total-map, client_at}

module _ {A : Type 0} where
  total_at : (f g : A → ℕ) (xs : List A) → ((k : ℕ) (d : A) → k < length xs → f (get_or xs k d) ≡ g (get_or xs k d)) → total f xs ≡ total g xs
  total_at f g [] h = refl
  total_at f g (x ∷ xs) h = omega (arith, h 0 x (omega arith), total_at f g xs (λ k d lt. h (suc k) d (omega arith)))

  counts : (p : A → Bool) (xs : List A) → count_by p xs ≡ total (λ x. cond (p x) 1 0) xs
  counts p xs = sym (total_sum (λ x. cond (p x) 1 0) xs)

module _ (list : List (ClientId × ℕ)) (i : ℕ) where
  submits : (order : List Ordered) → total (λ o. cond (is_submit_of i (event_of list o)) 1 0) order ≡ total (λ n. equal (client_of list n) i) (submitted order)
  submits [] = refl
  submits (Submit n ∷ order) = ap (λ m. equal (client_of list n) i + m) (submits order)
  submits (Close ∷ order) = omega (arith, submits order)

  -- each client submits as often as it stands in the list
  pub each_submit : (order : List Ordered) (events : List WindowEvent) → map (event_of list) order ≡ events → ((n : ℕ) → total (λ x. equal x n) (numbers_of list) ≤ 1)
      → ((h : ℕ → ℕ) → total h (submitted order) ≡ total h (numbers_of list))
      → count_by (is_submit_of i) events ≡ count_by (λ m. m.0.0 == i) list
  each_submit order events e one same =
      let first = counts (is_submit_of i) events ∙ ap (total (λ x. cond (is_submit_of i x) 1 0)) (sym e) ∙ total-map (λ x. cond (is_submit_of i x) 1 0) (event_of list) order in
      let second = total-map (λ n. equal (client_of list n) i) (λ (m : ClientId × ℕ). m.1) list in
      let third = total_at (λ m. equal (client_of list m.1) i) (λ m. equal m.0.0 i) list (λ k d lt. ap (λ c. equal c i) (client_at list k d one lt)) in
      omega (arith, first, submits order, same (λ n. equal (client_of list n) i), second, third, counts (λ m. m.0.0 == i) list)

module _ (list : List (ClientId × ℕ)) where
  abbrev closing : Ordered → ℕ
  closing o = cond (is_close (event_of list o)) 1 0

  none_draws : (xs : List Drawn) → total closing (map placed_of xs) ≡ 0
  none_draws [] = refl
  none_draws (x ∷ xs) = omega (arith, none_draws xs)

  none_repeats : (ns : List ℕ) → total closing (map repeat_of ns) ≡ 0
  none_repeats [] = refl
  none_repeats (n ∷ ns) = omega (arith, none_repeats ns)

  -- there is one closing
  pub one_close : (order : List Ordered) (xs ys : List Drawn) (ns : List ℕ) (events : List WindowEvent) → order ≡ (map placed_of xs ++ Close ∷ map placed_of ys) ++ map repeat_of ns
      → map (event_of list) order ≡ events → count_by is_close events ≡ 1
  one_close order xs ys ns events eo e =
      let first = counts is_close events ∙ ap (total (λ x. cond (is_close x) 1 0)) (sym e) ∙ total-map (λ x. cond (is_close x) 1 0) (event_of list) order in
      omega (arith, first, ap (total closing) eo, total-append closing (map placed_of xs ++ Close ∷ map placed_of ys) (map repeat_of ns), total-append closing (map placed_of xs) (Close ∷ map placed_of ys), none_draws xs, none_draws ys, none_repeats ns)
