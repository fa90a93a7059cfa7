-- The rule of the lock's two words and its slot, and what each step tells.
use Rattle.std.specs.Prelude.{◌≡◌, ℕ, ◌+◌, ◌<◌, ◌≤◌, min, ◌⊎◌, List, [], ◌∷◌, ◌++◌, length, cond, nat_lt, nat_le, slice_index, Option, Some, None, is_some, IfSome}
use mathlib.Core.Option.{some}
use lib.ListN.{get_elem?}
use Rattle.atomic_table.specs.Table.{State, Me, Step}
use Rattle.dn_counts.specs.Numbers.{rest_of, first_of, first_some}
use Rattle.dn_counts.specs.Counts.{total, times, equal}
use Rattle.dn_counts.specs.Numbers.{range}
use Rattle.dn_turns.specs.Logs.{within, Follows, GrowsBelow}
use Rattle.dn_turns.specs.declared.view.View.{View}

-- the count of tickets at which no more are given
abbrev pub limit : ℕ
limit = 4611686018427387904

abbrev pub longer : {A : Type 0} → List A → List A → List A
longer xs ys = cond (nat_le (length ys) (length xs)) xs ys

abbrev pub is_ticket : ℕ → Option ℕ → ℕ
is_ticket k None = 0
is_ticket k (Some t) = equal t k

module _ {E B : Type 0} where
  abbrev pub view : ℕ → Option B → List ℕ → ℕ → Option ℕ → Option (List (ℕ × E)) → List (ℕ × E) → Option ℕ → List (List ℕ × List (ℕ × E)) → View E B
  view passes base numbers drawn ticket turn seen full met = record { marker = record {}; passes = passes; base = base; numbers = numbers; drawn = drawn; ticket = ticket; turn = turn; seen = seen; full = full; met = met }

  abbrev pub first_view : ℕ → B → List (ℕ × E) → View E B
  first_view passes base log = view passes (Some base) (range 0 passes) 0 None None log None []

  -- the first number goes to a new pass
  abbrev pub without_first : View E B → View E B
  without_first v = view v.passes v.base (rest_of v.numbers) v.drawn v.ticket v.turn v.seen v.full v.met

  abbrev pub of_first : View E B → View E B
  of_first v = view v.passes v.base (first_of v.numbers) 0 None None v.seen None []

  -- two passes without tickets; until the next step it is kept what each had seen
  abbrev pub joined : View E B → View E B → View E B
  joined v w = view v.passes v.base (v.numbers ++ w.numbers) (v.drawn + w.drawn) v.ticket v.turn (longer v.seen w.seen) (first_some v.full w.full) ((v.numbers, v.seen) ∷ (w.numbers, w.seen) ∷ [])

  -- what a pass with this view leaves where another took it in
  abbrev pub spent : View E B
  spent = view 0 None [] 0 None None [] None []

  abbrev pub after_ticket : View E B → ℕ → View E B
  after_ticket v found = cond (nat_lt found limit) (view v.passes v.base v.numbers (v.drawn + 1) (Some found) v.turn v.seen v.full v.met) (view v.passes v.base v.numbers (v.drawn + 1) v.ticket v.turn v.seen (Some found) v.met)

  abbrev pub in_turn : View E B → List (ℕ × E) → View E B
  in_turn v log = view v.passes v.base v.numbers v.drawn v.ticket (Some log) v.seen v.full v.met

  abbrev pub passed_on : View E B → List (ℕ × E) → View E B
  passed_on v log = view v.passes v.base v.numbers v.drawn None None log v.full v.met

  abbrev pub settled : View E B → View E B
  settled v = view v.passes v.base v.numbers v.drawn v.ticket v.turn v.seen v.full []

  abbrev pub holds_ticket : ℕ → View E B → ℕ
  holds_ticket k v = is_ticket k v.ticket

  abbrev pub has_turn : View E B → ℕ
  has_turn v = cond (is_some v.turn) 1 0

  abbrev pub over : View E B → ℕ
  over v = cond (is_some v.full) (length v.numbers) 0

  -- what the rule says of one view
  pub record Fits (passes : ℕ) (base : B) (log : List (ℕ × E)) (tickets serving : ℕ) (v : View E B) : Type 0 where
    pub limits : (length v.numbers ≡ 0) ⊎ ((v.passes ≡ passes) × (v.base ≡ Some base))
    pub seen : Follows v.numbers v.seen log
    pub met : (j : ℕ) (m : List ℕ × List (ℕ × E)) → get_elem? v.met j ≡ some m → Follows m.0 m.1 log × (length m.1 ≤ length v.seen) × ((k : ℕ) → times k m.0 ≤ times k v.numbers) × GrowsBelow passes m.1 log
    -- its numbers are of passes, and so are those of the entries that it hasn't seen
    pub below : (k : ℕ) → 0 < times k v.numbers → k < passes
    pub grows : 0 < length v.numbers → GrowsBelow passes v.seen log
    pub turn : IfSome v.turn (λ g. (g ≡ log) × (v.ticket ≡ Some serving))
    pub full : IfSome v.full (λ n. (limit ≤ n) × (n < tickets))
    pub idle : length v.numbers ≡ 0 → v.drawn ≡ 0

  module _ {L : Type 0} (list : L → List (ℕ × E)) (base_of : L → B) where
    pub record IsKept (passes : ℕ) (s : State (Option L) (View E B)) : Type 0 where
      pub base : B
      pub log : List (ℕ × E)
      pub two_words : length s.words ≡ 2
      pub numbers : total (λ v. length v.numbers) s.views ≡ passes
      pub once : (k : ℕ) → total (λ v. times k v.numbers) s.views ≤ 1
      pub tickets : total (λ v. v.drawn) s.views ≡ slice_index s.words 0
      pub bound : slice_index s.words 0 ≤ limit + total over s.views
      pub order : slice_index s.words 1 ≤ min (slice_index s.words 0) limit
      pub each : (k : ℕ) → total (holds_ticket k) s.views ≡ within (slice_index s.words 1) (min (slice_index s.words 0) limit) k
      -- where no view has its turn, the log is at home
      pub home : total has_turn s.views ≡ 0 → (l : L) × (get_elem? s.homes 0 ≡ some (some (Some l))) × (list l ≡ log) × (base_of l ≡ base)
      pub fits : (i : ℕ) (v : View E B) → get_elem? s.views i ≡ some v → Fits passes base log (slice_index s.words 0) (slice_index s.words 1) v

    abbrev pub At : Type 0
    At = Me (Option L) (View E B)

    -- a ticket is drawn; a pass that stands for all finds as many as it drew
    abbrev pub Tickets : Step (Option L) → At → ℕ → At → Type 0
    Tickets st m found n = (n ≡ (after_ticket m.0 found, m.1)) × (length m.0.numbers ≡ m.0.passes → found ≡ m.0.drawn)

    -- the log is taken where the turn has come
    abbrev pub Looks : Step (Option L) → At → ℕ → At → Type 0
    Looks st m found n = (¬ (m.0.ticket ≡ Some found) → n ≡ m) × (m.0.ticket ≡ Some found → (l : L) × (n ≡ (in_turn m.0 (list l), (0, Some l) ∷ m.1)) × Follows m.0.numbers m.0.seen (list l) × (m.0.base ≡ Some (base_of l)) × GrowsBelow m.0.passes m.0.seen (list l))

    -- the log that was put back is seen
    abbrev pub Passes : Step (Option L) → At → ℕ → At → Type 0
    Passes st m found n = (l : L) → m.1 ≡ (0, Some l) ∷ [] → n ≡ (passed_on m.0 (list l), [])

    -- after a join, what the two had seen is compared
    abbrev pub Settles : Step (Option L) → At → ℕ → At → Type 0
    Settles st m found n = (n ≡ (settled m.0, m.1))
        × ((j : ℕ) (p : List ℕ × List (ℕ × E)) → get_elem? m.0.met j ≡ some p → Follows p.0 p.1 m.0.seen × GrowsBelow m.0.passes p.1 m.0.seen)
        × (length m.0.numbers ≡ m.0.passes → found ≡ m.0.drawn)
        × IfSome m.0.full (λ k. k < found)
