-- The rule of the gate's words and slots, and what each step tells. Word 0 is the control word, word i + 1 that of client i, and slot i the client's.
use Rattle.std.specs.Prelude.{◌≡◌, ◌≢◌, ℕ, zero, suc, ◌+◌, ◌-◌, ◌*◌, ◌^◌, ◌<◌, ◌≤◌, ◌⊎◌, Bool, true, false, List, [], ◌∷◌, ◌++◌, length, map, cond, nat_lt, nat_le, ◌==◌, count_by, slice_index, Option, Some, None, is_some, is_none, IfSome, MatchOption}
use mathlib.Core.Option.{some}
use lib.ListN.{get_elem?}
use Rattle.atomic_table.specs.Table.{State, Me, Step, rest}
use Rattle.dn_counts.specs.Counts.{total, equal, once_below, times}
use Rattle.dn_counts.specs.Numbers.{rest_of, first_of, least, first_some}
use Rattle.dn_gate.specs.Draws.{Draw}
use Rattle.dn_gate.specs.declared.view.View.{View}

-- the bit of the control word that says that the gate is closed
abbrev pub closed : ℕ
closed = 4294967296

-- at how many of the numbers below n f isn't 0
abbrev pub many : (ℕ → ℕ) → ℕ → ℕ
many f zero = 0
many f (suc n) = many f n + cond (nat_lt 0 (f n)) 1 0

abbrev pub is_client : ℕ → Option ℕ → ℕ
is_client i None = 0
is_client i (Some c) = equal c i

-- 1 for a word that isn't free
abbrev pub is_set : ℕ → ℕ
is_set w = cond (w == 0) 0 1

-- 1 where the client was there before
abbrev pub was : List ℕ → ℕ → ℕ
was before i = cond (nat_lt 0 (times i before)) 1 0

-- 1 where the draw is of the client; where it is of the client, and included; where it has the place
abbrev pub of_client : ℕ → Draw → ℕ
of_client i d = equal d.client i

abbrev pub included_of : ℕ → Draw → ℕ
included_of i d = cond (is_none d.late) (equal d.client i) 0

abbrev pub at_place : ℕ → Draw → ℕ
at_place k d = equal d.place k

-- 1 where it is the client's word, and was found marked
abbrev pub is_mark : ℕ → ℕ × ℕ → ℕ
is_mark i p = cond (p.1 == 3) (equal p.0 i) 0

-- the place is one of those before the closing's count
abbrev pub IsBefore : ℕ → Option ℕ → Type 0
IsBefore place None = Unit {0}
IsBefore place (Some count) = place < count

-- the draw was told by its place
abbrev pub IsTold : Option ℕ → Draw → Type 0
IsTold cut d = MatchOption d.late (IsBefore d.place cut) (λ seen. (closed ≤ seen) × ((count : ℕ) × (cut ≡ Some count) × (count ≤ d.place)))

-- the control word after a closing: its bit, and at least the closing's count of draws
abbrev pub IsShut : Option ℕ → ℕ → Type 0
IsShut cut w = (count : ℕ) × (cut ≡ Some count) × (closed + count ≤ w)

-- draws of two passes, by place
abbrev pub insert_draw : Draw → List Draw → List Draw
insert_draw d [] = d ∷ []
insert_draw d (e ∷ es) = cond (nat_lt d.place e.place) (d ∷ e ∷ es) (e ∷ insert_draw d es)

abbrev pub merge_draws : List Draw → List Draw → List Draw
merge_draws [] es = es
merge_draws (d ∷ ds) es = insert_draw d (merge_draws ds es)

-- the places rise
abbrev pub Ascends : List Draw → Type 0
Ascends ds = (j k : ℕ) (d e : Draw) → j < k → get_elem? ds j ≡ some d → get_elem? ds k ≡ some e → d.place < e.place

abbrev pub At : Type 0 → Type 0
At T = Me (Option T) (View T)

module _ {T : Type 0} where
  abbrev pub view : ℕ → ℕ → List ℕ → List ℕ → Option ℕ → Option ℕ → List Draw → List (ℕ × T) → List (ℕ × ℕ) → Option ℕ → List (ℕ × ℕ) → List ℕ → ℕ → List ℕ → ℕ → View T
  view passes clients before numbers claim unmarked draws values repeats closing looked taken right refused closings =
      record { marker = record {}; passes = passes; clients = clients; before = before; numbers = numbers; claim = claim; unmarked = unmarked; draws = draws; values = values; repeats = repeats; closing = closing; looked = looked; taken = taken; right = right; refused = refused; closings = closings }

  abbrev pub joined : View T → View T → View T
  joined v w = view v.passes v.clients v.before (v.numbers ++ w.numbers) v.claim v.unmarked (merge_draws v.draws w.draws) (v.values ++ w.values) (v.repeats ++ w.repeats) (first_some v.closing w.closing) (v.looked ++ w.looked) (v.taken ++ w.taken) (v.right + w.right) (v.refused ++ w.refused) (v.closings + w.closings)

  abbrev pub spent : View T
  spent = view 0 0 [] [] None None [] [] [] None [] [] 0 [] 0

  -- the first number goes to a new pass
  abbrev pub without_first : View T → View T
  without_first v = view v.passes v.clients v.before (rest_of v.numbers) v.claim v.unmarked v.draws v.values v.repeats v.closing v.looked v.taken v.right v.refused v.closings

  abbrev pub of_first : View T → View T
  of_first v = view v.passes v.clients v.before (first_of v.numbers) None None [] [] [] None [] [] 0 [] 0

  -- the right goes to a closing
  abbrev pub without_right : View T → View T
  without_right v = view v.passes v.clients v.before v.numbers v.claim v.unmarked v.draws v.values v.repeats v.closing v.looked v.taken 0 v.refused v.closings

  abbrev pub of_right : View T → View T
  of_right v = view v.passes v.clients v.before [] None None [] [] [] None [] [] v.right [] 0

  abbrev pub claimed : View T → ℕ → View T
  claimed v i = view v.passes v.clients v.before v.numbers (Some i) v.unmarked v.draws v.values v.repeats v.closing v.looked v.taken v.right v.refused v.closings

  abbrev pub repeated : View T → ℕ → View T
  repeated v i = view v.passes v.clients v.before v.numbers v.claim v.unmarked v.draws v.values (v.repeats ++ (least v.numbers, i) ∷ []) v.closing v.looked v.taken v.right v.refused v.closings

  abbrev pub drew_in : View T → ℕ → ℕ → View T
  drew_in v i place = view v.passes v.clients v.before v.numbers None (Some i) (v.draws ++ record { place = place; client = i; late = None } ∷ []) v.values v.repeats v.closing v.looked v.taken v.right v.refused v.closings

  abbrev pub drew_late : View T → ℕ → ℕ → View T
  drew_late v i seen = view v.passes v.clients v.before v.numbers None None (v.draws ++ record { place = seen - closed; client = i; late = Some seen } ∷ []) v.values v.repeats v.closing v.looked v.taken v.right v.refused v.closings

  abbrev pub closed_at : View T → ℕ → View T
  closed_at v count = view v.passes v.clients v.before v.numbers v.claim v.unmarked v.draws v.values v.repeats (Some count) v.looked v.taken 1 v.refused 1

  -- a close found the gate closed
  abbrev pub refused_at : View T → ℕ → View T
  refused_at v found = view v.passes v.clients v.before v.numbers v.claim v.unmarked v.draws v.values v.repeats v.closing v.looked v.taken v.right (v.refused ++ found ∷ []) v.closings

  abbrev pub marked : View T → ℕ → T → View T
  marked v i x = view v.passes v.clients v.before v.numbers v.claim None v.draws (v.values ++ (i, x) ∷ []) v.repeats v.closing v.looked v.taken v.right v.refused v.closings

  abbrev pub took : View T → ℕ → View T
  took v i = view v.passes v.clients v.before v.numbers v.claim v.unmarked v.draws v.values v.repeats v.closing v.looked (v.taken ++ i ∷ []) v.right v.refused v.closings

  abbrev pub looked_at : View T → ℕ → ℕ → View T
  looked_at v i found = view v.passes v.clients v.before v.numbers v.claim v.unmarked v.draws v.values v.repeats v.closing (v.looked ++ (i, found) ∷ []) v.taken v.right v.refused v.closings

  -- after looks that found these
  abbrev pub looked_all : View T → List (ℕ × ℕ) → View T
  looked_all v found = view v.passes v.clients v.before v.numbers v.claim v.unmarked v.draws v.values v.repeats v.closing (v.looked ++ found) v.taken v.right v.refused v.closings

  abbrev pub claims : ℕ → View T → ℕ
  claims i v = is_client i v.claim

  abbrev pub draws_of : ℕ → View T → ℕ
  draws_of i v = total (of_client i) v.draws

  abbrev pub includes : ℕ → View T → ℕ
  includes i v = total (included_of i) v.draws

  abbrev pub puts : ℕ → View T → ℕ
  puts i v = total (λ p. equal p.0 i) v.values

  -- how often it found the client's word marked, to take the value or to count
  abbrev pub sees : ℕ → View T → ℕ
  sees i v = times i v.taken + total (is_mark i) v.looked

  abbrev pub has_closing : View T → ℕ
  has_closing v = cond (is_some v.closing) 1 0

  -- what the rule says of one view
  pub record Fits (clients passes : ℕ) (before : List ℕ) (cut : Option ℕ) (v : View T) : Type 0 where
    pub limits : (length v.numbers ≡ 0) ⊎ ((v.clients ≡ clients) × (v.passes ≡ passes) × (v.before ≡ before))
    pub told : (j : ℕ) (d : Draw) → get_elem? v.draws j ≡ some d → IsTold cut d
    pub inside : (j : ℕ) (d : Draw) → get_elem? v.draws j ≡ some d → d.client < clients
    pub ascending : Ascends v.draws
    -- the numbers that it stands for, and those of its repeats, are of passes
    pub below : (j n : ℕ) → get_elem? v.numbers j ≡ some n → n < passes
    pub numbered : (j : ℕ) (p : ℕ × ℕ) → get_elem? v.repeats j ≡ some p → p.0 < passes
    pub closing : IfSome v.closing (λ count. cut ≡ Some count)
    pub made : v.closings ≡ has_closing v
    -- a view marks what it drew, and has all its included draws marked but the one of a call that goes on
    pub marks : (i : ℕ) → puts i v + is_client i v.unmarked ≡ includes i v
    pub asked : (j : ℕ) (p : ℕ × ℕ) → get_elem? v.repeats j ≡ some p → p.1 < clients
    -- a close that was refused found a word that the closing had left
    pub refused : (j w : ℕ) → get_elem? v.refused j ≡ some w → IsShut cut w
    -- who took a value has the right to
    pub takes : v.right ≡ 0 → length v.taken ≡ 0
    pub idle : length v.numbers ≡ 0 → (length v.draws ≡ 0) × (length v.values ≡ 0) × (length v.repeats ≡ 0) × (v.closing ≡ None) × (v.claim ≡ None)

  pub record IsKept (clients passes : ℕ) (before : List ℕ) (s : State (Option T) (View T)) : Type 0 where
    -- the count of the one closing
    pub cut : Option ℕ
    pub wide : length s.words ≡ clients + 1
    pub slots : length s.homes ≡ clients
    pub numbers : total (λ v. length v.numbers) s.views ≡ passes
    pub once : (k : ℕ) → total (λ v. times k v.numbers) s.views ≤ 1
    pub control : slice_index s.words 0 ≡ total (λ v. length v.draws) s.views + cond (is_some cut) closed 0
    pub few : total (λ v. length v.draws + cond (is_some v.claim) 1 0) s.views ≤ total is_set (rest_of s.words)
    pub places : (k : ℕ) → total (λ v. total (at_place k) v.draws) s.views ≡ once_below k (total (λ v. length v.draws) s.views)
    pub closings : total has_closing s.views ≡ cond (is_some cut) 1 0
    -- there is one right to take values, once the gate is closed
    pub rights : total (λ v. v.right) s.views ≤ cond (is_some cut) 1 0
    pub count : IfSome cut (λ n. n ≤ total (λ v. length v.draws) s.views)
    pub kinds : (i : ℕ) → i < clients → (slice_index s.words (i + 1) ≡ 0) ⊎ (slice_index s.words (i + 1) ≡ 1) ⊎ (slice_index s.words (i + 1) ≡ 3)
    pub claimed : (i : ℕ) → i < clients → is_set (slice_index s.words (i + 1)) ≡ was before i + total (claims i) s.views + total (draws_of i) s.views
    pub marked : (i : ℕ) → i < clients → cond (slice_index s.words (i + 1) == 3) 1 0 ≡ total (puts i) s.views
    -- a word that was found marked stays marked
    pub stays : (i : ℕ) → i < clients → 0 < total (sees i) s.views → slice_index s.words (i + 1) ≡ 3
    -- a repeat is of a client that was there or has its claim or its draw
    pub repeated : (j k : ℕ) (v : View T) (p : ℕ × ℕ) → get_elem? s.views j ≡ some v → get_elem? v.repeats k ≡ some p → 0 < slice_index s.words (p.1 + 1)
    -- a close that was refused found no more than the control word has
    pub found : (j k : ℕ) (v : View T) (w : ℕ) → get_elem? s.views j ≡ some v → get_elem? v.refused k ≡ some w → w ≤ slice_index s.words 0
    -- a client that is free has an empty slot at home, and one that is marked its value, unless it was taken
    pub free : (i : ℕ) → i < clients → slice_index s.words (i + 1) ≡ 0 → get_elem? s.homes i ≡ some (some None)
    pub kept : (i j k : ℕ) (v : View T) (x : T) → get_elem? s.views j ≡ some v → get_elem? v.values k ≡ some (i, x) → total (λ u. times i u.taken) s.views ≡ 0 → get_elem? s.homes i ≡ some (some (Some x))
    pub fits : (j : ℕ) (v : View T) → get_elem? s.views j ≡ some v → Fits clients passes before cut v

  -- what a pass that stands for all knows where it is not in mid-call
  pub record IsSettled (v : View T) : Type 0 where
    pub places : (j : ℕ) (d : Draw) → get_elem? v.draws j ≡ some d → d.place ≡ j
    pub inside : (j : ℕ) (d : Draw) → get_elem? v.draws j ≡ some d → d.client < v.clients
    pub told : (j : ℕ) (d : Draw) → get_elem? v.draws j ≡ some d → IsTold v.closing d
    pub cut : IfSome v.closing (λ count. count ≤ length v.draws)
    pub once : (i : ℕ) → i < v.clients → was v.before i + draws_of i v ≤ 1
    pub repeats : (k : ℕ) (p : ℕ × ℕ) → get_elem? v.repeats k ≡ some p → 0 < was v.before p.1 + draws_of p.1 v
    pub numbered : (k : ℕ) (p : ℕ × ℕ) → get_elem? v.repeats k ≡ some p → p.0 < v.passes
    pub values : (i : ℕ) → puts i v ≡ includes i v
    pub refused : (j w : ℕ) → get_elem? v.refused j ≡ some w → IsShut v.closing w × (w ≤ closed + length v.draws)

  abbrev pub IsIdle : View T → Type 0
  IsIdle v = (v.claim ≡ None) × (v.unmarked ≡ None)

  -- a load of the control word, after a join and by a pass that collects
  abbrev pub Settles : Step (Option T) → At T → ℕ → At T → Type 0
  Settles st m found n = (n ≡ m) × Ascends m.0.draws × (length m.0.numbers ≡ m.0.passes → IsIdle m.0 → IsSettled m.0) × (m.0.right ≤ 1) × (m.0.right ≡ 0 → length m.0.taken ≡ 0) × IfSome m.0.closing (λ count. many (λ i. sees i m.0) m.0.clients ≤ count) × (m.0.closings ≡ has_closing m.0)

  -- fetch_or 1 on the client's word: the empty slot goes out with who claimed it
  abbrev pub Claims : Step (Option T) → At T → ℕ → At T → Type 0
  Claims st m found n = (found ≡ 0 → n ≡ (claimed m.0 (st.word - 1), (st.word - 1, None) ∷ m.1)) × (found ≢ 0 → n ≡ (repeated m.0 (st.word - 1), m.1))

  -- fetch_add 1 on the control word: where the gate is closed, the slot goes home again
  abbrev pub Draws : Step (Option T) → At T → ℕ → At T → Type 0
  Draws st m found n = ((i : ℕ) → m.0.claim ≡ Some i → (found < closed → (m.0.closing ≡ None) × (n ≡ (drew_in m.0 i found, m.1))) × (closed ≤ found → n ≡ (drew_late m.0 i found, rest m.1))) × Ascends n.0.draws

  -- fetch_or 2^32 on the control word
  abbrev pub Closes : Step (Option T) → At T → ℕ → At T → Type 0
  Closes st m found n = (found < closed → (m.0.closing ≡ None) × (n ≡ (closed_at m.0 found, m.1)) × (length m.0.taken ≡ 0)) × (closed ≤ found → n ≡ (refused_at m.0 found, m.1))

  -- fetch_or 2 on the client's word: the slot goes home with the value that was put into it
  abbrev pub Marks : Step (Option T) → At T → ℕ → At T → Type 0
  Marks st m found n = (x : T) → m.1 ≡ (st.word - 1, Some x) ∷ [] → n ≡ (marked m.0 (st.word - 1) x, [])

  -- what a load of a client's word tells a pass that stands for all
  abbrev pub KnowsMark : View T → ℕ → ℕ → Type 0
  KnowsMark v i found = length v.numbers ≡ v.passes → cond (found == 3) 1 0 ≡ puts i v

  -- a load of a client's word, to count
  abbrev pub Looks : Step (Option T) → At T → ℕ → At T → Type 0
  Looks st m found n = (n ≡ (looked_at m.0 (st.word - 1) found, m.1)) × KnowsMark m.0 (st.word - 1) found

  -- what the view put for the client is x
  abbrev pub IsOnly : View T → ℕ → T → Type 0
  IsOnly v i x = (k : ℕ) (y : T) → get_elem? v.values k ≡ some (i, y) → y ≡ x

  -- a load of a client's word, by the pass with the right to take values: where it is marked, the slot comes out with its value
  abbrev pub Takes : Step (Option T) → At T → ℕ → At T → Type 0
  Takes st m found n = let i = st.word - 1 in
      (found ≢ 3 → n ≡ m)
      × (found ≡ 3 → (x : T) × (n ≡ (took m.0 i, (i, Some x) ∷ m.1)) × IsOnly m.0 i x)
      × KnowsMark m.0 i found
      × (0 < total (is_mark i) m.0.looked → found ≡ 3)

  -- a load by which a slot that was emptied goes home
  abbrev pub Returns : Step (Option T) → At T → ℕ → At T → Type 0
  Returns st m found n = n ≡ (m.0, rest m.1)

-- 1 for a word that is marked
abbrev pub is_three : ℕ → ℕ
is_three w = cond (w == 3) 1 0

-- how many words were found marked
abbrev pub marked_count : List (ℕ × ℕ) → ℕ
marked_count found = count_by (λ p. p.1 == 3) found

-- the marks of a view, client by client
abbrev pub marks_upto : {T : Type 0} → View T → ℕ → ℕ
marks_upto v Rattle.std.proofs.Common.zero = 0
marks_upto v (Rattle.std.proofs.Common.suc n) = marks_upto v n + puts n v
