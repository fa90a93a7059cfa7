-- Rows that are met one by one in a list of ciphertexts.
use Rattle.std.proofs.Common.{◌≡◌, ℕ, ◌+◌, ◌<◌, ◌≤◌, Bool, true, false, cond, List, [], ◌∷◌, ◌++◌, length, map, get_or, take, drop, refl, sym, ap, ◌∙◌, subst, arith, length-append}
use Rattle.std.specs.Prelude.{All, filter}
use Rattle.std.proofs.lemmas.List.{take_more, take_all, take-append-drop, length-map, length-take-le, get_or-map, map-append, append_assoc, append-nil}
use Rattle.std.proofs.lemmas.List.Elements.{filter-append, filter_more, All-more, All-get_or}

module _ {X Y : Type 0} (f : X → Y) (Ok : X → Type 0) (p : Y → Bool) (rows : List Y) (xs : List X) where
  -- the first `at` elements are as the first `i` rows want
  pub record Matched (at i : ℕ) : Type 0 where
    pub within : at ≤ length xs
    pub rows_met : map f (take at xs) ≡ filter p (take i rows)
    pub oks : All Ok (take at xs)

  pub matched_skip : (at i : ℕ) (row : Y) → i < length rows → get_or rows i row ≡ row → p row ≡ false → Matched at i → Matched at (i + 1)
  matched_skip at i row lt is test old = record {
    within = old.within;
    rows_met = old.rows_met ∙ sym (filter_more p rows i row lt ∙ ap (λ r. filter p (take i rows) ++ cond (p r) (r ∷ []) []) is
        ∙ ap (λ b. filter p (take i rows) ++ cond b (row ∷ []) []) test ∙ append-nil (filter p (take i rows)));
    oks = old.oks;
  }

  pub matched_more : (at i : ℕ) (row : Y) (x : X) → i < length rows → get_or rows i row ≡ row → p row ≡ true
      → at < length xs → get_or xs at x ≡ x → f x ≡ row → Ok x → Matched at i → Matched (at + 1) (i + 1)
  matched_more at i row x lt is test at_lt at_is same ok old = record {
    within = omega arith;
    rows_met =
        ap (map f) (take_more xs at x at_lt ∙ ap (λ y. take at xs ++ y ∷ []) at_is)
        ∙ map-append f (take at xs) (x ∷ [])
        ∙ (λ t. old.rows_met t ++ same t ∷ [])
        ∙ sym (filter_more p rows i row lt ∙ ap (λ r. filter p (take i rows) ++ cond (p r) (r ∷ []) []) is
        ∙ ap (λ b. filter p (take i rows) ++ cond b (row ∷ []) []) test);
    oks = All-more Ok xs at x at_lt old.oks (subst Ok (sym at_is) ok);
  }

  length_met : (at i : ℕ) → Matched at i → length (filter p (take i rows)) ≡ at
  length_met at i old = ap length (sym old.rows_met) ∙ length-map (take at xs) f ∙ length-take-le at xs old.within

  pub matched_all : (at : ℕ) → Matched at (length rows) → at ≡ length xs → (map f xs ≡ filter p rows) × All Ok xs
  matched_all at all whole =
      let xs_all : take at xs ≡ xs = take_all at xs (omega arith) in
      let rows_all : take (length rows) rows ≡ rows = take_all (length rows) rows (omega arith) in
      (ap (map f) (sym xs_all) ∙ all.rows_met ∙ ap (filter p) rows_all, subst (All Ok) xs_all all.oks)

  pub matched_few : (at : ℕ) → Matched at (length rows) → ¬ (at ≡ length xs) → ¬ (map f xs ≡ filter p rows)
  matched_few at all few same =
      let rows_all : take (length rows) rows ≡ rows = take_all (length rows) rows (omega arith) in
      few (sym (length_met at (length rows) all) ∙ ap (λ l. length (filter p l)) rows_all ∙ ap length (sym same) ∙ length-map xs f)

  -- the row at place i is the one at place `at` of those that pass
  split : (i : ℕ) (row : Y) → i < length rows → get_or rows i row ≡ row → p row ≡ true
      → filter p rows ≡ filter p (take i rows) ++ (row ∷ filter p (drop (i + 1) rows))
  split i row lt is test =
      ap (filter p) (sym (take-append-drop (i + 1) rows))
      ∙ filter-append p (take (i + 1) rows) (drop (i + 1) rows)
      ∙ ap (λ l. l ++ filter p (drop (i + 1) rows)) (filter_more p rows i row lt ∙ ap (λ r. filter p (take i rows) ++ cond (p r) (r ∷ []) []) is
      ∙ ap (λ b. filter p (take i rows) ++ cond b (row ∷ []) []) test)
      ∙ append_assoc (filter p (take i rows)) (row ∷ []) (filter p (drop (i + 1) rows))

  pub matched_short : (at i : ℕ) (row : Y) → i < length rows → get_or rows i row ≡ row → p row ≡ true → Matched at i → at ≡ length xs → ¬ (map f xs ≡ filter p rows)
  matched_short at i row lt is test old short same =
      let long = ap length (split i row lt is test) ∙ length-append (filter p (take i rows)) (row ∷ filter p (drop (i + 1) rows)) in
      omega (arith, long, length_met at i old, ap length same, length-map xs f)

  pub matched_other : (at i : ℕ) (row : Y) (x : X) → i < length rows → get_or rows i row ≡ row → p row ≡ true → at < length xs → get_or xs at x ≡ x
      → Matched at i → ¬ ((f x ≡ row) × Ok x) → ¬ ((map f xs ≡ filter p rows) × All Ok xs)
  matched_other at i row x lt is test at_lt at_is old other both =
      let front = filter p (take i rows) in
      let rest = filter p (drop (i + 1) rows) in
      let met = length_met at i old in
      let here : get_or (front ++ (row ∷ rest)) at row ≡ row =
      subst (λ n. get_or (front ++ (row ∷ rest)) n row ≡ row) met (at_front front) in
      other (
        sym (ap f at_is) ∙ sym (get_or-map f xs at x row at_lt) ∙ ap (λ l. get_or l at row) both.0 ∙ ap (λ l. get_or l at row) (split i row lt is test) ∙ here,
        subst Ok at_is (All-get_or Ok xs at x at_lt both.1),
      )
    where
      at_front : (front : List Y) → get_or (front ++ (row ∷ filter p (drop (i + 1) rows))) (length front) row ≡ row
      at_front [] = refl
      at_front (y ∷ ys) = at_front ys
