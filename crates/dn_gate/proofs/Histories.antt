-- What a pass that stands for all knows is the history of one window.
use Rattle.std.proofs.Common.{◌≡◌, ◌≢◌, ℕ, zero, suc, ◌+◌, ◌<◌, ◌≤◌, List, [], ◌∷◌, ◌++◌, length, map, take, drop, refl, sym, ap, ap₂, ◌∙◌, arith, append-nil, Bool, true, false, cond, is_none, MatchOption, Option, Some, None, ◌==◌, ◌||◌, eq-eqb, ne_eqb, lt-ltb, le-ltb, count_by}
use Rattle.std.specs.List.{list_any, filter, filter_map, range_with_len}
use Rattle.std.proofs.lemmas.List.{map-append, take-append-drop}
use Rattle.std.proofs.lemmas.List.Folds.{list_any-append}
use Rattle.std.proofs.lemmas.List.Elements.{filter-append, filter_map-append}
use mathlib.Core.Logic.{dite}
use mathlib.Core.Option.{some, some-ne-none}
use native.Mathlib.Decide.{ℕ_discrete, dec_le}
use lib.ListN.{get_elem?}
use Rattle.dn_told.specs.declared.told.WindowTold.{WindowTold}
use Rattle.dn_told.specs.declared.told.WindowTold.TheVariants.{Included, Late, Repeat}
use Rattle.dn_told.specs.Window.{WindowEvent, Submit, Close, is_among, has_submitted, is_closed, told_after, answers_after, answers, included_client}
use Rattle.dn_told.proofs.WindowLemmas.{has_submitted-append, is_closed-append, answers_after-append}
use Rattle.dn_gate.specs.Draws.{Draw}
use Rattle.dn_counts.specs.Counts.{total, times, equal}
use Rattle.dn_gate.specs.Rule.{closed, was, of_client, included_of, IsBefore, IsTold, IsSettled}
use Rattle.dn_gate.specs.Order.{with_number, in_order}
use Rattle.dn_gate.specs.Pass.{PassView, as_view}
use Rattle.dn_gate.specs.History.{submissions, drawn, told_at, repeats_of, history, told, IsHistory}
use Rattle.dn_counts.proofs.Sums.{term_le, terms_le, total-append, hit, miss, times-append}

or_false : (b : Bool) → (b || false) ≡ b
or_false true = refl
or_false false = refl

or_of : (a b : Bool) → a ≡ true → (a || b) ≡ true
or_of true b e = refl
or_of false b e = absurd (off e)
  where
    off : false ≡ true → ⊥
    off q = cc

or_right : (a b : Bool) → b ≡ true → (a || b) ≡ true
or_right true b e = refl
or_right false b e = e

neither : (a b : Bool) → a ≡ false → b ≡ false → (a || b) ≡ false
neither a b e d = ap₂ (λ x y. x || y) e d

either_no : (a b : Bool) → (a || b) ≡ false → (a ≡ false) × (b ≡ false)
either_no true b e = absurd (off e)
  where
    off : true ≡ false → ⊥
    off q = cc
either_no false b e = (refl, e)

-- a list that doesn't have the number, and one that has it
among_no : (xs : List ℕ) (i : ℕ) → times i xs ≡ 0 → is_among xs i ≡ false
among_no [] i e = refl
among_no (x ∷ xs) i e = dite (ℕ_discrete x i)
    (λ is. absurd (omega (arith, e, times-append i (x ∷ []) xs, hit x i is)))
    (λ ne. neither (x == i) (is_among xs i) (ne_eqb x i ne) (among_no xs i (omega (arith, e, times-append i (x ∷ []) xs, miss x i ne))))

among_yes : (xs : List ℕ) (i : ℕ) → 0 < times i xs → is_among xs i ≡ true
among_yes [] i h = absurd (omega arith)
among_yes (x ∷ xs) i h = dite (ℕ_discrete x i)
    (λ is. or_of (x == i) (is_among xs i) (eq-eqb x i is))
    (λ ne. or_right (x == i) (is_among xs i) (among_yes xs i (omega (arith, h, times-append i (x ∷ []) xs, miss x i ne))))

was_no : (before : List ℕ) (i : ℕ) → was before i ≡ 0 → is_among before i ≡ false
was_no before i e = dite (dec_le (times i before) 0)
    (λ le. among_no before i (omega arith))
    (λ gt. absurd (omega (arith, e, ap (λ b. cond {A = ℕ} b 1 0) (lt-ltb 0 (times i before) (omega arith)))))

was_yes : (before : List ℕ) (i : ℕ) → 0 < was before i → is_among before i ≡ true
was_yes before i h = dite (dec_le (times i before) 0)
    (λ le. absurd (omega (arith, h, ap (λ b. cond {A = ℕ} b 1 0) (le-ltb 0 (times i before) le))))
    (λ gt. among_yes before i (omega arith))

-- whether the client is one of the draws
any_of : ℕ → List Draw → Bool
any_of i ds = list_any (λ d. d.client == i) ds

submitted_any : (ds : List Draw) (i : ℕ) → has_submitted (submissions ds) i ≡ any_of i ds
unfolding any_of
submitted_any [] i = refl
submitted_any (d ∷ ds) i = ap (λ b. (d.client == i) || b) (submitted_any ds i)

submitted_drawn : (cut : Option ℕ) (ds : List Draw) (i : ℕ) → has_submitted (drawn cut ds) i ≡ any_of i ds
unfolding any_of
submitted_drawn None ds i = submitted_any ds i
submitted_drawn (Some count) ds i =
    has_submitted-append (submissions (take count ds)) (Close ∷ submissions (drop count ds)) i
    ∙ ap₂ (λ x y. x || y) (submitted_any (take count ds) i) (submitted_any (drop count ds) i)
    ∙ sym (list_any-append (λ d. d.client == i) (take count ds) (drop count ds))
    ∙ ap (any_of i) (take-append-drop count ds)

any_yes : (ds : List Draw) (i : ℕ) → 0 < total (of_client i) ds → any_of i ds ≡ true
unfolding any_of
any_yes [] i h = absurd (omega arith)
any_yes (d ∷ ds) i h = dite (ℕ_discrete d.client i)
    (λ is. or_of (d.client == i) (any_of i ds) (eq-eqb d.client i is))
    (λ ne. or_right (d.client == i) (any_of i ds) (any_yes ds i (omega (arith, h, miss d.client i ne))))

any_no : (ds : List Draw) (i : ℕ) → total (of_client i) ds ≡ 0 → any_of i ds ≡ false
unfolding any_of
any_no [] i e = refl
any_no (d ∷ ds) i e = dite (ℕ_discrete d.client i)
    (λ is. absurd (omega (arith, e, hit d.client i is)))
    (λ ne. neither (d.client == i) (any_of i ds) (ne_eqb d.client i ne) (any_no ds i (omega (arith, e, miss d.client i ne))))

open_submissions : (ds : List Draw) → is_closed (submissions ds) ≡ false
open_submissions [] = refl
open_submissions (d ∷ ds) = open_submissions ds

-- draws of clients that come for the first time are told whether the window is open
abbrev IsNewTo : List ℕ → List WindowEvent → List Draw → Type 0
IsNewTo before past ds = (j : ℕ) (d : Draw) → get_elem? ds j ≡ some d → (is_among before d.client || has_submitted past d.client) ≡ false

abbrev AreApart : List Draw → Type 0
AreApart ds = (j k : ℕ) (d e : Draw) → j < k → get_elem? ds j ≡ some d → get_elem? ds k ≡ some e → d.client ≢ e.client

abbrev answer_of : Draw → ℕ × WindowTold
answer_of d = (d.client, told_at d.late)

told_new : (before : List ℕ) (past : List WindowEvent) (i : ℕ) (t : WindowTold) → (is_among before i || has_submitted past i) ≡ false → t ≡ cond (is_closed past) Late Included → told_after before past i ≡ t
unfolding told_after
told_new before past i t new is = ap (λ b. cond b Repeat (cond (is_closed past) Late Included)) new ∙ sym is

told_again : (before : List ℕ) (past : List WindowEvent) (i : ℕ) → (is_among before i || has_submitted past i) ≡ true → told_after before past i ≡ Repeat
unfolding told_after
told_again before past i again = ap (λ b. cond b Repeat (cond (is_closed past) Late Included)) again

draws_answered : (before : List ℕ) (past : List WindowEvent) (ds : List Draw) → IsNewTo before past ds → AreApart ds → ((j : ℕ) (d : Draw) → get_elem? ds j ≡ some d → told_at d.late ≡ cond (is_closed past) Late Included)
    → answers_after before past (submissions ds) ≡ map answer_of ds
draws_answered before past [] new apart is = refl
draws_answered before past (d ∷ ds) new apart is =
    let more : List WindowEvent = past ++ Submit d.client ∷ [] in
    ap₂ (λ (t : WindowTold) l. (d.client, t) ∷ l)
    (told_new before past d.client (told_at d.late) (new 0 d refl) (is 0 d refl))
    (draws_answered before more ds
    (λ j e at.
    let old = either_no (is_among before e.client) (has_submitted past e.client) (new (suc j) e at) in
    neither (is_among before e.client) (has_submitted more e.client) old.0
    (has_submitted-append past (Submit d.client ∷ []) e.client ∙ neither (has_submitted past e.client) ((d.client == e.client) || false) old.1 (or_false (d.client == e.client) ∙ ne_eqb d.client e.client (apart 0 (suc j) d e (omega arith) refl at))))
    (λ j k e f lt a b. apart (suc j) (suc k) e f (omega arith) a b)
    (λ j e at. is (suc j) e at ∙ ap (λ b. cond b Late Included) (sym (is_closed-append past (Submit d.client ∷ []) ∙ or_false (is_closed past)))))

abbrev Every : {A : Type 0} → (A → Type 0) → List A → Type 0
Every P [] = Unit {0}
Every P (x ∷ xs) = P x × Every P xs

module _ {A : Type 0} (P : A → Type 0) where
  every_at : (xs : List A) → ((j : ℕ) (x : A) → get_elem? xs j ≡ some x → P x) → Every P xs
  every_at [] h = tt
  every_at (x ∷ xs) h = (h 0 x refl, every_at xs (λ j. h (suc j)))

  every-append : (xs ys : List A) → Every P xs → Every P ys → Every P (xs ++ ys)
  every-append [] ys a b = b
  every-append (x ∷ xs) ys a b = (a.0, every-append xs ys a.1 b)

  every-filter : (t : A → Bool) (xs : List A) → Every P xs → Every P (filter t xs)
  every-filter t [] a = tt
  every-filter t (x ∷ xs) a = by (t x) (every-filter t xs a.1)
    where
      by : (b : Bool) → Every P (filter t xs) → Every P (cond b (x ∷ filter t xs) (filter t xs))
      by true more = (a.0, more)
      by false more = more

module _ {A : Type 0} (P : ℕ × A → Type 0) where
  every-in_order : (n : ℕ) (xs : List (ℕ × A)) → Every P xs → Every P (in_order n xs)
  every-in_order zero xs a = tt
  every-in_order (suc n) xs a = every-append P (in_order n xs) (with_number n xs) (every-in_order n xs a) (every-filter P (λ p. p.0 == n) xs a)

abbrev IsAgain : List ℕ → List WindowEvent → ℕ × ℕ → Type 0
IsAgain before past r = (is_among before r.1 || has_submitted past r.1) ≡ true

again_more : (before : List ℕ) (past : List WindowEvent) (e : WindowEvent) (rs : List (ℕ × ℕ)) → Every (IsAgain before past) rs → Every (IsAgain before (past ++ e ∷ [])) rs
again_more before past e [] h = tt
again_more before past e (r ∷ rs) h = (by (is_among before r.1) (has_submitted past r.1) (has_submitted (e ∷ []) r.1) h.0 (has_submitted-append past (e ∷ []) r.1), again_more before past e rs h.1)
  where
    by : (a b c : Bool) → (a || b) ≡ true → has_submitted (past ++ e ∷ []) r.1 ≡ (b || c) → (a || has_submitted (past ++ e ∷ []) r.1) ≡ true
    by true b c h f = refl
    by false b c h f = f ∙ or_of b c h

repeats_answered : (before : List ℕ) (past : List WindowEvent) (rs : List (ℕ × ℕ)) → Every (IsAgain before past) rs → answers_after before past (map (λ r. Submit r.1) rs) ≡ map (λ r. (r.1, Repeat)) rs
repeats_answered before past [] h = refl
repeats_answered before past (r ∷ rs) h =
    ap₂ (λ (t : WindowTold) l. (r.1, t) ∷ l) (told_again before past r.1 h.0) (repeats_answered before (past ++ Submit r.1 ∷ []) rs (again_more before past (Submit r.1) rs h.1))

-- what the told ones were told, by their places
told_open : (d : Draw) → IsTold None d → told_at d.late ≡ Included
told_open d t = by d.late t
  where
    off : {c : ℕ} → None ≡ Some c → ⊥
    off e = cc

    by : (o : Option ℕ) → MatchOption o (IsBefore d.place None) (λ seen. (closed ≤ seen) × ((c : ℕ) × (None ≡ Some c) × (c ≤ d.place))) → told_at o ≡ Included
    by None h = refl
    by (Some seen) h = absurd (off h.1.1)

told_below : (d : Draw) (count : ℕ) → IsTold (Some count) d → d.place < count → told_at d.late ≡ Included
told_below d count t lt = by d.late t
  where
    same : {c : ℕ} → Some count ≡ Some c → count ≡ c
    same e = cc

    by : (o : Option ℕ) → MatchOption o (IsBefore d.place (Some count)) (λ seen. (closed ≤ seen) × ((c : ℕ) × (Some count ≡ Some c) × (c ≤ d.place))) → told_at o ≡ Included
    by None h = refl
    by (Some seen) h = absurd (omega (arith, lt, same h.1.1, h.1.2))

told_above : (d : Draw) (count : ℕ) → IsTold (Some count) d → count ≤ d.place → told_at d.late ≡ Late
told_above d count t le = by d.late t
  where
    by : (o : Option ℕ) → MatchOption o (IsBefore d.place (Some count)) (λ seen. (closed ≤ seen) × ((c : ℕ) × (Some count ≡ Some c) × (c ≤ d.place))) → told_at o ≡ Late
    by None h = absurd (omega (arith, le, h))
    by (Some seen) h = refl

module _ {A : Type 0} where
  take_at : (n : ℕ) (xs : List A) (j : ℕ) (x : A) → get_elem? (take n xs) j ≡ some x → (get_elem? xs j ≡ some x) × (j < n)
  take_at zero xs j x e = absurd (some-ne-none x (sym e))
  take_at (suc n) [] j x e = absurd (some-ne-none x (sym e))
  take_at (suc n) (y ∷ ys) zero x e = (e, omega arith)
  take_at (suc n) (y ∷ ys) (suc j) x e = let t = take_at n ys j x e in (t.0, omega (arith, t.1))

  drop_at : (n : ℕ) (xs : List A) (j : ℕ) (x : A) → get_elem? (drop n xs) j ≡ some x → get_elem? xs (n + j) ≡ some x
  drop_at zero xs j x e = let is : j ≡ 0 + j = omega arith in ap (get_elem? xs) (sym is) ∙ e
  drop_at (suc n) [] j x e = absurd (some-ne-none x (sym e))
  drop_at (suc n) (y ∷ ys) j x e = let is : suc n + j ≡ suc (n + j) = omega arith in ap (get_elem? (y ∷ ys)) is ∙ drop_at n ys j x e

-- the draws of one window, with the Close in its place
cut_answered : (before : List ℕ) (cut : Option ℕ) (ds : List Draw) → ((j : ℕ) (d : Draw) → get_elem? ds j ≡ some d → d.place ≡ j) → ((j : ℕ) (d : Draw) → get_elem? ds j ≡ some d → IsTold cut d)
    → ((j : ℕ) (d : Draw) → get_elem? ds j ≡ some d → was before d.client + total (of_client d.client) ds ≤ 1)
    → answers_after before [] (drawn cut ds) ≡ map answer_of ds
cut_answered before cut ds places told once = by cut told
  where
    new : (j : ℕ) (d : Draw) → get_elem? ds j ≡ some d → is_among before d.client ≡ false
    new j d at = was_no before d.client (omega (arith, once j d at, term_le (of_client d.client) ds j d at, hit d.client d.client refl))

    apart : AreApart ds
    apart j k d e lt a b same = absurd (omega (arith, once j d a, terms_le (of_client d.client) ds j k d e (λ q. absurd (omega arith)) a b, hit d.client d.client refl, hit e.client d.client (sym same)))

    by : (o : Option ℕ) → ((j : ℕ) (d : Draw) → get_elem? ds j ≡ some d → IsTold o d) → answers_after before [] (drawn o ds) ≡ map answer_of ds
    by None t = draws_answered before [] ds (λ j d at. neither (is_among before d.client) false (new j d at) refl) apart (λ j d at. told_open d (t j d at))
    by (Some count) t =
        let first : List Draw = take count ds in
        let others : List Draw = drop count ds in
        let past : List WindowEvent = submissions first ++ Close ∷ [] in
        let shut : is_closed past ≡ true = is_closed-append (submissions first) (Close ∷ []) ∙ or_right (is_closed (submissions first)) true refl in
        let front : answers_after before [] (submissions first) ≡ map answer_of first =
        draws_answered before [] first
        (λ j d at. neither (is_among before d.client) false (new j d (take_at count ds j d at).0) refl)
        (λ j k d e lt a b. apart j k d e lt (take_at count ds j d a).0 (take_at count ds k e b).0)
        (λ j d at. let q = take_at count ds j d at in told_below d count (t j d q.0) (omega (arith, places j d q.0, q.1))) in
        let back : answers_after before past (submissions others) ≡ map answer_of others =
        draws_answered before past others
        (λ j d at.
        let here = drop_at count ds j d at in
        let parts = total-append (of_client d.client) first others in
        let none_first : total (of_client d.client) first ≡ 0 = omega (arith, once (count + j) d here, ap (total (of_client d.client)) (take-append-drop count ds), parts, term_le (of_client d.client) others j d at, hit d.client d.client refl) in
        neither (is_among before d.client) (has_submitted past d.client) (new (count + j) d here)
        (has_submitted-append (submissions first) (Close ∷ []) d.client ∙ or_false (has_submitted (submissions first) d.client) ∙ submitted_any first d.client ∙ any_no first d.client none_first))
        (λ j k d e lt a b. apart (count + j) (count + k) d e (omega arith) (drop_at count ds j d a) (drop_at count ds k e b))
        (λ j d at. let here = drop_at count ds j d at in told_above d count (t (count + j) d here) (omega (arith, places (count + j) d here)) ∙ ap (λ b. cond b Late Included) (sym shut)) in
        answers_after-append before [] (submissions first) (Close ∷ submissions others) ∙ ap₂ (λ x y. x ++ y) front back ∙ sym (map-append answer_of first others) ∙ ap (map answer_of) (take-append-drop count ds)

places_from : (ds : List Draw) (a : ℕ) → ((j : ℕ) (d : Draw) → get_elem? ds j ≡ some d → d.place ≡ a + j) → map (λ d. d.place) ds ≡ range_with_len a (length ds)
places_from [] a h = refl
places_from (d ∷ ds) a h = ap₂ (λ (n : ℕ) l. n ∷ l) (h 0 d refl ∙ omega arith) (places_from ds (a + 1) (λ j e at. omega (arith, h (suc j) e at)))

-- the repeats of each pass, once
module _ {A : Type 0} where
  number-miss : (k : ℕ) (p : ℕ × A) (xs : List (ℕ × A)) → p.0 ≢ k → with_number k (p ∷ xs) ≡ with_number k xs
  number-miss k p xs ne = ap (λ (b : Bool). cond b (p ∷ with_number k xs) (with_number k xs)) (ne_eqb p.0 k ne)

  number-hit : (k : ℕ) (p : ℕ × A) (xs : List (ℕ × A)) → p.0 ≡ k → with_number k (p ∷ xs) ≡ p ∷ with_number k xs
  number-hit k p xs e = ap (λ (b : Bool). cond b (p ∷ with_number k xs) (with_number k xs)) (eq-eqb p.0 k e)

  of_same : (k n : ℕ) (xs : List (ℕ × A)) → k ≡ n → with_number k (with_number n xs) ≡ with_number k xs
  of_same k n [] e = refl
  of_same k n (p ∷ xs) e = dite (ℕ_discrete p.0 n)
      (λ is. ap (with_number k) (number-hit n p xs is) ∙ number-hit k p (with_number n xs) (is ∙ sym e) ∙ ap (λ l. p ∷ l) (of_same k n xs e) ∙ sym (number-hit k p xs (is ∙ sym e)))
      (λ ne. ap (with_number k) (number-miss n p xs ne) ∙ of_same k n xs e ∙ sym (number-miss k p xs (λ q. ne (q ∙ e))))

  of_other : (k n : ℕ) (xs : List (ℕ × A)) → k ≢ n → with_number k (with_number n xs) ≡ []
  of_other k n [] ne = refl
  of_other k n (p ∷ xs) ne = dite (ℕ_discrete p.0 n)
      (λ is. ap (with_number k) (number-hit n p xs is) ∙ number-miss k p (with_number n xs) (λ q. ne (sym q ∙ is)) ∙ of_other k n xs ne)
      (λ no. ap (with_number k) (number-miss n p xs no) ∙ of_other k n xs ne)

  not_below : (k n : ℕ) (xs : List (ℕ × A)) → n ≤ k → with_number k (in_order n xs) ≡ []
  not_below k zero xs h = refl
  not_below k (suc n) xs h =
      filter-append (λ p. p.0 == k) (in_order n xs) (with_number n xs)
      ∙ ap₂ (λ x y. x ++ y) (not_below k n xs (omega arith)) (of_other k n xs (λ e. absurd (omega arith)))

  below_once : (k n : ℕ) (xs : List (ℕ × A)) → k < n → with_number k (in_order n xs) ≡ with_number k xs
  below_once k zero xs h = absurd (omega arith)
  below_once k (suc n) xs h = filter-append (λ p. p.0 == k) (in_order n xs) (with_number n xs) ∙ dite (ℕ_discrete k n)
      (λ e. ap₂ (λ x y. x ++ y) (not_below k n xs (omega arith)) (of_same k n xs e))
      (λ ne. ap₂ (λ x y. x ++ y) (below_once k n xs (omega arith)) (of_other k n xs ne) ∙ append-nil (with_number k xs))

  none_above : (k n : ℕ) (xs : List (ℕ × A)) → n ≤ k → ((j : ℕ) (p : ℕ × A) → get_elem? xs j ≡ some p → p.0 < n) → with_number k xs ≡ []
  none_above k n [] h below = refl
  none_above k n (p ∷ xs) h below = number-miss k p xs (λ e. absurd (omega (arith, below 0 p refl))) ∙ none_above k n xs h (λ j. below (suc j))

  each_once : (n : ℕ) (xs : List (ℕ × A)) → ((j : ℕ) (p : ℕ × A) → get_elem? xs j ≡ some p → p.0 < n) → (k : ℕ) → with_number k (in_order n xs) ≡ with_number k xs
  each_once n xs below k = dite (dec_le n k)
      (λ le. not_below k n xs le ∙ sym (none_above k n xs le below))
      (λ gt. below_once k n xs (omega arith))

  count_with : (i : ℕ) (xs : List (ℕ × A)) → length (with_number i xs) ≡ total (λ p. equal p.0 i) xs
  count_with i [] = refl
  count_with i (p ∷ xs) = dite (ℕ_discrete p.0 i)
      (λ e. ap length (number-hit i p xs e) ∙ omega (arith, count_with i xs, hit p.0 i e))
      (λ ne. ap length (number-miss i p xs ne) ∙ omega (arith, count_with i xs, miss p.0 i ne))

-- the clients told Included
included_draws : (i : ℕ) (ds : List Draw) → count_by (λ j. j == i) (filter_map included_client (map answer_of ds)) ≡ total (included_of i) ds
included_draws i [] = refl
included_draws i (d ∷ ds) = by d.late (included_draws i ds)
  where
    by : (o : Option ℕ) → count_by (λ j. j == i) (filter_map included_client (map answer_of ds)) ≡ total (included_of i) ds
        → count_by (λ j. j == i) (filter_map included_client ((d.client, told_at o) ∷ map answer_of ds)) ≡ cond (is_none o) (equal d.client i) 0 + total (included_of i) ds
    by None more =
        let e : count_by (λ j. j == i) (d.client ∷ filter_map included_client (map answer_of ds)) ≡ times i (d.client ∷ []) + count_by (λ j. j == i) (filter_map included_client (map answer_of ds)) = times-append i (d.client ∷ []) (filter_map included_client (map answer_of ds)) in
        let one : times i (d.client ∷ []) ≡ equal d.client i = omega arith in
        e ∙ ap₂ (λ (m n : ℕ). m + n) one more
    by (Some seen) more = more ∙ omega arith

no_repeat : (rs : List (ℕ × ℕ)) → filter_map included_client (map (λ r. (r.1, Repeat)) rs) ≡ []
no_repeat [] = refl
no_repeat (r ∷ rs) = no_repeat rs

module _ {T : Type 0} where
  pub is_history : (p : PassView T) → IsSettled (as_view p) → IsHistory p
  is_history p w =
      let before : List ℕ = p.gate.before in
      let once : (j : ℕ) (d : Draw) → get_elem? p.draws j ≡ some d → was before d.client + total (of_client d.client) p.draws ≤ 1 = λ j d at. w.once d.client (w.inside j d at) in
      let front : answers_after before [] (drawn p.closing p.draws) ≡ map answer_of p.draws = cut_answered before p.closing p.draws w.places w.told once in
      let again : Every (IsAgain before (drawn p.closing p.draws)) p.repeats = every_at (IsAgain before (drawn p.closing p.draws)) p.repeats (λ j r at. dite (dec_le (was before r.1) 0)
      (λ le. or_right (is_among before r.1) (has_submitted (drawn p.closing p.draws) r.1) (submitted_drawn p.closing p.draws r.1 ∙ any_yes p.draws r.1 (omega (arith, le, w.repeats j r at))))
      (λ gt. or_of (is_among before r.1) (has_submitted (drawn p.closing p.draws) r.1) (was_yes before r.1 (omega arith)))) in
      let answered : answers before (history p) ≡ told p =
      answers_after-append before [] (drawn p.closing p.draws) (map (λ r. Submit r.1) (repeats_of p))
      ∙ ap₂ (λ x y. x ++ y) front (repeats_answered before (drawn p.closing p.draws) (repeats_of p) (every-in_order (IsAgain before (drawn p.closing p.draws)) p.gate.passes p.repeats again)) in
      record {
        one_thread = answered;
        places = places_from p.draws 0 (λ j d at. w.places j d at ∙ omega arith);
        cut = w.cut;
        refused = w.refused;
        repeats = each_once p.gate.passes p.repeats w.numbered;
        values = λ i.
            count_with i p.values ∙ w.values i ∙ sym (included_draws i p.draws)
            ∙ ap (λ l. count_by (λ j. j == i) l) (sym (append-nil (filter_map included_client (map answer_of p.draws))) ∙ ap (λ l. filter_map included_client (map answer_of p.draws) ++ l) (sym (no_repeat (repeats_of p)))
            ∙ sym (filter_map-append included_client (map answer_of p.draws) (map (λ r. (r.1, Repeat)) (repeats_of p))) ∙ ap (filter_map included_client) (sym answered));
      }
