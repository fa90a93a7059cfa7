-- The rule of the drawer's one word, which is the number of draws so far, and what each step tells.
use Rattle.std.specs.Prelude.{◌≡◌, ℕ, ◌+◌, ◌-◌, ◌<◌, ◌≤◌, min, List, [], ◌∷◌, ◌++◌, length, cond, nat_lt, nat_le, slice_index, ◌⊎◌, Option, Some, None, is_some, IfSome}
use mathlib.Core.Option.{some}
use lib.ListN.{get_elem?}
use Rattle.atomic_table.specs.Table.{State, Me, Step}
use Rattle.dn_counts.specs.Numbers.{first_some}
use Rattle.dn_counts.specs.Counts.{total, times, once_below}
use Rattle.dn_leaf.specs.Counts.{IsDistinctBelow, HasEachOnce}
use Rattle.dn_leaf.specs.declared.view.View.{View}

abbrev pub view : ℕ → ℕ → ℕ → List ℕ → Option ℕ → View
view count passes stands draws seen = record { count = count; passes = passes; stands = stands; draws = draws; seen = seen }

abbrev pub first_view : ℕ → ℕ → View
first_view count passes = view count passes passes [] None

abbrev pub less_one : View → View
less_one v = view v.count v.passes (v.stands - 1) v.draws v.seen

abbrev pub one_of : View → View
one_of v = view v.count v.passes 1 [] None

-- the word, where it is at the count or above
abbrev pub past_count : ℕ → ℕ → Option ℕ
past_count count word = cond (nat_le count word) (Some word) None

abbrev pub joined : View → View → View
joined v w = view v.count v.passes (v.stands + w.stands) (v.draws ++ w.draws) (first_some v.seen w.seen)

-- what another pass took in: it stands for none
abbrev pub spent : View
spent = view 0 0 0 [] None

-- a look keeps the value that was seen first
abbrev pub after_look : View → ℕ → View
after_look v word = view v.count v.passes v.stands v.draws (first_some v.seen (past_count v.count word))

abbrev pub after_draw : View → ℕ → View
after_draw v word = cond (nat_lt word v.count) (view v.count v.passes v.stands (v.draws ++ word ∷ []) None) (view v.count v.passes v.stands v.draws (Some word))

-- a pass that has seen the word at the count or above stands for as many passes as may have gone past it
abbrev pub over : View → ℕ
over v = cond (is_some v.seen) v.stands 0

-- what the rule says of one view, where the word is this
pub record Fits (count passes word : ℕ) (v : View) : Type 0 where
  pub limits : (v.stands ≡ 0) ⊎ ((v.count ≡ count) × (v.passes ≡ passes))
  pub seen : IfSome v.seen (λ n. (count ≤ n) × (n ≤ word))
  pub idle : v.stands ≡ 0 → length v.draws ≡ 0

-- the draws of all views have each number below the word and the count once. The word is not above the count by more than the passes that have seen that
pub record IsKept (count passes : ℕ) (s : State (Unit {0}) View) : Type 0 where
  pub one_word : length s.words ≡ 1
  pub stands : total (λ v. v.stands) s.views ≡ passes
  pub each : (x : ℕ) → total (λ v. times x v.draws) s.views ≡ once_below x (min (slice_index s.words 0) count)
  pub drawn : total (λ v. length v.draws) s.views ≡ min (slice_index s.words 0) count
  pub bound : slice_index s.words 0 ≤ count + total over s.views
  pub fits : (i : ℕ) (v : View) → get_elem? s.views i ≡ some v → Fits count passes (slice_index s.words 0) v

-- what a pass with this view knows where the word is this
pub record Knows (v : View) (word : ℕ) : Type 0 where
  pub bound : word ≤ v.count + v.passes
  pub past : IfSome v.seen (λ n. (v.count ≤ n) × (n ≤ word))
  pub apart : IsDistinctBelow v.draws (min word v.count)
  pub whole : v.stands ≡ v.passes → HasEachOnce v.draws (min word v.count)
  pub number : v.stands ≡ v.passes → length v.draws ≡ min word v.count
  pub alone : v.stands ≡ v.passes → v.seen ≡ None → word ≤ v.count

-- what a pass keeps between two calls
pub record IsPass (me : Me (Unit {0}) View) (seen : Option ℕ) : Type 0 where
  pub no_slot : me.1 ≡ []
  pub same : seen ≡ me.0.seen
  pub live : 0 < me.0.stands
  pub apart : IsDistinctBelow me.0.draws me.0.count
  pub past : IfSome seen (λ n. (me.0.count ≤ n) × (n ≤ me.0.count + me.0.passes))
  pub ended : IfSome seen (λ n. me.0.stands ≡ me.0.passes → HasEachOnce me.0.draws me.0.count)

abbrev pub Looks : Step (Unit {0}) → Me (Unit {0}) View → ℕ → Me (Unit {0}) View → Type 0
Looks st m found n = (n ≡ (after_look m.0 found, m.1)) × Knows n.0 found

abbrev pub Draws : Step (Unit {0}) → Me (Unit {0}) View → ℕ → Me (Unit {0}) View → Type 0
Draws st m found n = (n ≡ (after_draw m.0 found, m.1)) × Knows m.0 found × Knows n.0 (found + 1)
