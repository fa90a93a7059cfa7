-- The order that draws make, sorted by their places.
use Rattle.std.proofs.Common.{◌≡◌, ℕ, zero, suc, ◌+◌, ◌-◌, ◌<◌, ◌≤◌, ◌≢◌, ◌%◌, List, [], ◌∷◌, ◌++◌, length, map, take, drop, get_or, Bool, true, false, cond, ◌==◌, refl, sym, ap, subst, ◌∙◌, arith, None, Some, Option, ◌⊎◌, inl, inr, eq-eqb, append_assoc, append-nil, length-append, take-append-drop}
use Rattle.std.specs.List.{range_with_len}
use Rattle.std.specs.List.Sorted.{IsPermutation, IsNonDecreasingBy}
use Rattle.std.proofs.lemmas.Bool.{cases_lt}
use Rattle.std.proofs.lemmas.List.{map-append, take-map, drop-map, get_or-map}
use Rattle.dn_counts.specs.Counts.{total, equal, times}
use Rattle.dn_counts.proofs.Sums.{total-append, hit, miss}
use Rattle.dn_told.specs.declared.told.WindowTold.{WindowTold}
use Rattle.dn_told.specs.declared.told.WindowTold.TheVariants.{Included, Late, Repeat}
use Rattle.dn_wire.specs.declared.ids.ClientId.{ClientId}
use Rattle.dn_gate.specs.Draws.{Draw}
use Rattle.dn_gate.specs.Order.{in_order, with_number}
use Rattle.dn_gate.specs.Pass.{PassView, GateId}
use Rattle.dn_gate.specs.History.{submissions, drawn, history, repeats_of, IsHistory}
use lib.ListN.{get_elem?}
use Rattle.dn_told.specs.Window as window
use Rattle.dn_crew.specs.declared.order.Ordered.{Ordered}
use Rattle.dn_crew.specs.declared.order.Ordered.TheVariants.{Submit, Close}
use Rattle.dn_crew.specs.declared.sharing.Drawn.{Drawn}
use Rattle.dn_crew.specs.Race.{numbers_of, client_of, event_of, submitted, in_time}
use Rattle.dn_crew.specs.Shares.{Shown, shown, recorded, placed_of, repeat_of, counted}
use Rattle.dn_crew.proofs.Totals.{total-map, total-permutation, times_total, length-mapped}

-- places from a on have no place below a
none_below : (a n p : ℕ) → p < a → total (λ x. equal x p) (range_with_len a n) ≡ 0
none_below a zero p lt = refl
none_below a (suc n) p lt = omega (arith, miss a p (omega arith), none_below (a + 1) n p (omega arith))

once_each : (a n p : ℕ) → total (λ x. equal x p) (range_with_len a n) ≤ 1
once_each a zero p = omega arith
once_each a (suc n) p = elim (cases_lt a p) [
  | inl lt ↦ omega (arith, miss a p (λ e. absurd (omega arith)), once_each (a + 1) n p)
  | inr ge ↦ omega (arith, none_below (a + 1) n p (omega arith), if_most (a == p))
] where
  if_most : (b : Bool) → cond {A = ℕ} b 1 0 ≤ 1
  if_most true = omega arith
  if_most false = omega arith

range_push : (a n : ℕ) → range_with_len a (n + 1) ≡ range_with_len a n ++ (a + n) ∷ []
range_push a zero = ap (λ m. m ∷ []) (omega arith)
range_push a (suc n) =
    let up : suc n + 1 ≡ suc (n + 1) = omega arith in
    let over : (a + 1) + n ≡ a + suc n = omega arith in
    ap (range_with_len a) up ∙ ap (λ l. a ∷ l) (range_push (a + 1) n) ∙ ap (λ m. a ∷ (range_with_len (a + 1) n ++ m ∷ [])) over

-- one number more
pub counts_more : (list : List (ClientId × ℕ)) (m : ClientId × ℕ) (n : ℕ) → numbers_of list ≡ range_with_len 0 n → m.1 ≡ n → numbers_of (list ++ m ∷ []) ≡ range_with_len 0 (n + 1)
counts_more list m n e is =
    let here : 0 + n ≡ n = omega arith in
    map-append (λ (x : ClientId × ℕ). x.1) list (m ∷ []) ∙ ap (λ l. l ++ m.1 ∷ []) e ∙ ap (λ k. range_with_len 0 n ++ k ∷ []) (is ∙ sym here) ∙ sym (range_push 0 n)

-- numbers that count up are each there once
pub counts_up : (list : List (ClientId × ℕ)) (n : ℕ) → numbers_of list ≡ range_with_len 0 n → (k : ℕ) → times k (numbers_of list) ≤ 1
counts_up list n e k = omega (arith, times_total k (numbers_of list), ap (total (λ x. equal x k)) e, once_each 0 n k)

abbrev place : Shown → ℕ
place t = t.0

none_before : (a n p : ℕ) (ys : List Shown) → map place ys ≡ range_with_len a n → p < a → total (λ t. equal t.0 p) ys ≡ 0
none_before a n p ys e lt = sym (total-map (λ x. equal x p) place ys) ∙ ap (total (λ x. equal x p)) e ∙ none_below a n p lt

-- where nothing is counted, nothing adds up
nothing : {A : Type 0} (i f : A → ℕ) → ((x : A) → i x ≡ 0 → f x ≡ 0) → (xs : List A) → total i xs ≡ 0 → total f xs ≡ 0
nothing i f z [] e = refl
nothing i f z (x ∷ xs) e = omega (arith, z x (omega arith), nothing i f z xs (omega arith))

code : WindowTold → ℕ
code Included = 0
code Late = 1
code Repeat = 2

same_told : (x y : WindowTold) → code x ≡ code y → x ≡ y
unfolding code
same_told Included Included e = refl
same_told Included Late e = absurd (omega arith)
same_told Included Repeat e = absurd (omega arith)
same_told Late Included e = absurd (omega arith)
same_told Late Late e = refl
same_told Late Repeat e = absurd (omega arith)
same_told Repeat Included e = absurd (omega arith)
same_told Repeat Late e = absurd (omega arith)
same_told Repeat Repeat e = refl

-- what f gives of those with the place a
abbrev at : ℕ → (Shown → ℕ) → Shown → ℕ
at a f t = cond (t.0 == a) (f t) 0

at_yes : (a : ℕ) (f : Shown → ℕ) (t : Shown) → t.0 ≡ a → at a f t ≡ f t
at_yes a f t e = ap (λ b. cond b (f t) 0) (eq-eqb t.0 a e)

at_none : (a : ℕ) (f : Shown → ℕ) (t : Shown) → equal t.0 a ≡ 0 → at a f t ≡ 0
at_none a f t e = by_test (t.0 == a) (f t) e where
  by_test : (b : Bool) (n : ℕ) → cond {A = ℕ} b 1 0 ≡ 0 → cond {A = ℕ} b n 0 ≡ 0
  by_test true n e = absurd (omega arith)
  by_test false n e = refl

abbrev trio : ℕ → ℕ → WindowTold → Shown
trio p c t = (p, c, t)

head_same : (x y : Shown) → x.0 ≡ y.0 → x.1 ≡ y.1 → x.2 ≡ y.2 → x ≡ y
head_same x y a b c = ap (λ n. trio n x.1 x.2) a ∙ ap (λ n. trio y.0 n x.2) b ∙ ap (trio y.0 y.1) c

none_in : (a b : ℕ) (xs : List Shown) → a < b → ((j : ℕ) (d : Shown) → j < length xs → b ≤ place (get_or xs j d)) → total (λ t. equal t.0 a) xs ≡ 0
none_in a b [] lt h = refl
none_in a b (x ∷ xs) lt h =
    let above = h 0 x (omega arith) in
    let ne : x.0 ≢ a = omega arith in
    omega (arith, miss x.0 a ne, none_in a b xs lt (λ j d l. h (suc j) d (omega arith)))

tail_sorted : (x : Shown) (xs : List Shown) → IsNonDecreasingBy place (x ∷ xs) → IsNonDecreasingBy place xs
tail_sorted x xs up = λ i j d le lt. up (suc i) (suc j) d (omega arith) (omega arith)

dite_le : {P : Type 0} (m n : ℕ) → (m ≤ n → P) → (n < m → P) → P
dite_le m n f g = elim (cases_lt n m) [ inl lt ↦ g lt | inr le ↦ f le ]

-- a sorted list that has what a list has whose places are a, a + 1 and so on
pub sorted_same : (a : ℕ) (ys xs : List Shown) → map place ys ≡ range_with_len a (length ys) → IsNonDecreasingBy place xs
    → ((g : Shown → ℕ) → total g xs ≡ total g ys) → xs ≡ ys
sorted_same a [] [] e up h = refl
sorted_same a [] (x ∷ xs) e up h = absurd (let n = h (λ _. 1) in omega arith)
sorted_same a (y ∷ ys) [] e up h = absurd (let n = h (λ _. 1) in omega arith)
sorted_same a (y ∷ ys) (x ∷ xs) e up h =
    let first : y.0 ≡ a = cc e in
    let rest : map place ys ≡ range_with_len (a + 1) (length ys) = cc e in
    let others : total (λ t. equal t.0 a) ys ≡ 0 = none_before (a + 1) (length ys) a ys rest (omega arith) in
    let one : total (λ t. equal t.0 a) (x ∷ xs) ≡ 1 = omega (arith, h (λ t. equal t.0 a), hit y.0 a first, others) in
    let low : x.0 ≤ a = dite_le x.0 a (λ le. le) (λ lt. absurd (let z = none_in a x.0 (x ∷ xs) lt (λ j d l. up 0 j d (omega arith) l) in omega arith)) in
    let high : a ≤ x.0 = dite_le a x.0 (λ le. le) (λ lt. absurd (
    let z = none_before a (suc (length ys)) x.0 (y ∷ ys) e lt in
    let w = h (λ t. equal t.0 x.0) in
    let v = hit x.0 x.0 refl in
    omega arith)) in
    let here : x.0 ≡ a = omega arith in
    let alone : total (λ t. equal t.0 a) xs ≡ 0 = omega (arith, hit x.0 a here) in
    let value = λ (f : Shown → ℕ). (
    let s = nothing (λ t. equal t.0 a) (at a f) (at_none a f) xs alone in
    let t = nothing (λ t. equal t.0 a) (at a f) (at_none a f) ys others in
    let k : f x ≡ f y = omega (arith, h (at a f), at_yes a f x here, at_yes a f y first) in k) in
    let same : x ≡ y = head_same x y (here ∙ sym first) (value (λ t. t.1)) (same_told x.2 y.2 (value (λ t. code t.2))) in
    let tails = sorted_same (a + 1) ys xs rest (tail_sorted x xs up) (λ g. omega (arith, h g, ap g same)) in
    ap (λ t. t ∷ xs) same ∙ ap (λ l. y ∷ l) tails

module _ (list : List (ClientId × ℕ)) where
  place_shown : (ds : List Draw) → map place (map shown ds) ≡ map (λ d. d.place) ds
  place_shown [] = refl
  place_shown (d ∷ ds) = ap (λ l. d.place ∷ l) (place_shown ds)

  abbrev no_draw : Drawn
  no_draw = record { place = 0; number = 0; told = Included }

  rises : (xs : List Drawn) → IsNonDecreasingBy (λ d. d.place) xs → IsNonDecreasingBy place (map (recorded list) xs)
  rises xs up = λ i j d le lt.
      let n = length-mapped (recorded list) xs in
      let x : get_or (map (recorded list) xs) i d ≡ recorded list (get_or xs i no_draw) = get_or-map (recorded list) xs i no_draw d (omega arith) in
      let y : get_or (map (recorded list) xs) j d ≡ recorded list (get_or xs j no_draw) = get_or-map (recorded list) xs j no_draw d (omega arith) in
      let k = up i j no_draw le (omega arith) in
      omega (arith, ap place x, ap place y, k)

  -- the draws that were recorded, sorted by place, are the gate's
  pub sorted_draws : (ds : List Draw) (draws xs : List Drawn) → map (λ d. d.place) ds ≡ range_with_len 0 (length ds) → IsPermutation draws xs → IsNonDecreasingBy (λ d. d.place) xs
      → ((g : Shown → ℕ) → total (λ d. g (shown d)) ds ≡ total (λ d. g (recorded list d)) draws)
      → map (recorded list) xs ≡ map shown ds
  sorted_draws ds draws xs places perm up same =
      sorted_same 0 (map shown ds) (map (recorded list) xs)
      (place_shown ds ∙ places ∙ ap (range_with_len 0) (sym (length-mapped shown ds)))
      (rises xs up)
      (λ g. omega (arith, total-map g (recorded list) xs, total-permutation (λ d. g (recorded list d)) draws xs perm, same g, total-map g shown ds))

  event_draws : (xs : List Drawn) (ds : List Draw) → map (recorded list) xs ≡ map shown ds → map (event_of list) (map placed_of xs) ≡ submissions ds
  event_draws [] [] e = refl
  event_draws [] (d ∷ ds) e = absurd (let n = ap length e in omega arith)
  event_draws (x ∷ xs) [] e = absurd (let n = ap length e in omega arith)
  event_draws (x ∷ xs) (d ∷ ds) e = ap (λ n. window.Submit n ∷ map (event_of list) (map placed_of xs)) (head_client e) ∙ ap (λ l. window.Submit d.client ∷ l) (event_draws xs ds (cc e)) where
    head_client : recorded list x ∷ map (recorded list) xs ≡ shown d ∷ map shown ds → client_of list x.number ≡ d.client
    head_client h = let s : recorded list x ≡ shown d = cc h in ap (λ t. t.1) s

  event_repeats : (ns : List ℕ) (rs : List (ℕ × ℕ)) → map (λ r. r.1) rs ≡ map (client_of list) ns → map (event_of list) (map repeat_of ns) ≡ map (λ r. window.Submit r.1) rs
  event_repeats [] [] e = refl
  event_repeats [] (r ∷ rs) e = absurd (let n = ap length e in omega arith)
  event_repeats (n ∷ ns) [] e = absurd (let m = ap length e in omega arith)
  event_repeats (n ∷ ns) (r ∷ rs) e =
      let c : r.1 ≡ client_of list n = cc e in
      ap (λ i. window.Submit i ∷ map (event_of list) (map repeat_of ns)) (sym c) ∙ ap (λ l. window.Submit r.1 ∷ l) (event_repeats ns rs (cc e))

  -- the order spells the history
  pub spelled : (order : List Ordered) (xs : List Drawn) (ds : List Draw) (count : ℕ) (ns : List ℕ) (rs : List (ℕ × ℕ))
      → order ≡ (map placed_of (take count xs) ++ Close ∷ map placed_of (drop count xs)) ++ map repeat_of ns
      → map (recorded list) xs ≡ map shown ds → map (λ r. r.1) rs ≡ map (client_of list) ns
      → map (event_of list) order ≡ drawn (Some count) ds ++ map (λ r. window.Submit r.1) rs
  spelled order xs ds count ns rs eo ed er =
      let front = event_draws (take count xs) (take count ds) (sym (take-map (recorded list) count xs) ∙ ap (take count) ed ∙ take-map shown count ds) in
      let back = event_draws (drop count xs) (drop count ds) (sym (drop-map (recorded list) count xs) ∙ ap (drop count) ed ∙ drop-map shown count ds) in
      let mid : map (event_of list) (map placed_of (take count xs) ++ Close ∷ map placed_of (drop count xs)) ≡ drawn (Some count) ds =
      map-append (event_of list) (map placed_of (take count xs)) (Close ∷ map placed_of (drop count xs)) ∙ ap (λ l. l ++ window.Close ∷ map (event_of list) (map placed_of (drop count xs))) front ∙ ap (λ l. submissions (take count ds) ++ window.Close ∷ l) back in
      ap (map (event_of list)) eo ∙ map-append (event_of list) (map placed_of (take count xs) ++ Close ∷ map placed_of (drop count xs)) (map repeat_of ns)
      ∙ ap (λ l. l ++ map (event_of list) (map repeat_of ns)) mid ∙ ap (λ l. drawn (Some count) ds ++ l) (event_repeats ns rs er)

submitted-append : (xs ys : List Ordered) → submitted (xs ++ ys) ≡ submitted xs ++ submitted ys
submitted-append [] ys = refl
submitted-append (Submit n ∷ xs) ys = ap (λ l. n ∷ l) (submitted-append xs ys)
submitted-append (Close ∷ xs) ys = submitted-append xs ys

submitted_draws : (xs : List Drawn) → submitted (map placed_of xs) ≡ map (λ d. d.number) xs
submitted_draws [] = refl
submitted_draws (x ∷ xs) = ap (λ l. x.number ∷ l) (submitted_draws xs)

submitted_repeats : (ns : List ℕ) → submitted (map repeat_of ns) ≡ ns
submitted_repeats [] = refl
submitted_repeats (n ∷ ns) = ap (λ l. n ∷ l) (submitted_repeats ns)

pub in_time_draws : (xs : List Drawn) (ys : List Ordered) → in_time (map placed_of xs ++ Close ∷ ys) ≡ map (λ d. d.number) xs
in_time_draws [] ys = refl
in_time_draws (x ∷ xs) ys = ap (λ l. x.number ∷ l) (in_time_draws xs ys)

-- what the order has, added up
pub counted_order : (h : ℕ → ℕ) (order : List Ordered) (xs : List Drawn) (count : ℕ) (ns : List ℕ)
    → order ≡ (map placed_of (take count xs) ++ Close ∷ map placed_of (drop count xs)) ++ map repeat_of ns
    → total h (submitted order) ≡ counted h xs ns
counted_order h order xs count ns e =
    let num = λ (d : Drawn). d.number in
    let front = submitted_draws (take count xs) in
    let back = submitted_draws (drop count xs) in
    let split : submitted order ≡ (map (λ d. d.number) (take count xs) ++ map (λ d. d.number) (drop count xs)) ++ ns =
    ap submitted e ∙ submitted-append (map placed_of (take count xs) ++ Close ∷ map placed_of (drop count xs)) (map repeat_of ns)
    ∙ ap (λ l. l ++ submitted (map repeat_of ns)) (submitted-append (map placed_of (take count xs)) (Close ∷ map placed_of (drop count xs)) ∙ ap (λ l. l ++ submitted (map placed_of (drop count xs))) front ∙ ap (λ l. map (λ d. d.number) (take count xs) ++ l) back)
    ∙ ap (λ l. (map (λ d. d.number) (take count xs) ++ map (λ d. d.number) (drop count xs)) ++ l) (submitted_repeats ns) in
    let one = total-append h (map (λ (d : Drawn). d.number) (take count xs)) (map (λ (d : Drawn). d.number) (drop count xs)) in
    let two = total-append h (map (λ (d : Drawn). d.number) (take count xs) ++ map (λ (d : Drawn). d.number) (drop count xs)) ns in
    let three = total-append (λ d. h d.number) (take count xs) (drop count xs) in
    let four = ap (total (λ d. h d.number)) (take-append-drop count xs) in
    omega (arith, ap (total h) split, one, two, three, four, total-map h (λ (d : Drawn). d.number) (take count xs), total-map h (λ (d : Drawn). d.number) (drop count xs))

-- what the gate's history has of a pass that is whole
pub whole_history : (p q : PassView ℕ) (W count : ℕ) (gate : GateId) → gate.passes ≡ W + 1 → q.gate ≡ gate → q.draws ≡ p.draws → q.repeats ≡ p.repeats → q.closing ≡ Some count
    → in_order W p.repeats ≡ p.repeats → with_number W p.repeats ≡ []
    → history q ≡ drawn (Some count) p.draws ++ map (λ r. window.Submit r.1) p.repeats
whole_history p q W count gate passes g d r c turn none =
    let n : q.gate.passes ≡ suc W = ap (λ i. i.passes) g ∙ passes ∙ Rattle.std.proofs.Common.add-one W in
    let o : in_order (suc W) p.repeats ≡ p.repeats = ap (λ l. in_order W p.repeats ++ l) none ∙ append-nil _ ∙ turn in
    let f : repeats_of q ≡ p.repeats = ap (λ k. in_order k q.repeats) n ∙ ap (in_order (suc W)) r ∙ o in
    ap (λ x. drawn x q.draws ++ map (λ e. window.Submit e.1) (repeats_of q)) c ∙ ap (λ l. drawn (Some count) l ++ map (λ e. window.Submit e.1) (repeats_of q)) d
    ∙ ap (λ l. drawn (Some count) p.draws ++ map (λ e. window.Submit e.1) l) f

-- a gate that a pass found closed was closed by a pass
pub closed_by_one : (p : PassView ℕ) → IsHistory p → p.closing ≡ None → (found : ℕ) → p.refused ≡ found ∷ [] → ⊥
closed_by_one p h e found r = let s = (h.refused 0 found (ap (λ l. get_elem? l 0) r)).0 in cc (s.1, e)
