-- What the workers of a race did.
use Rattle.std.specs.Prelude.{◌≡◌, ℕ, zero, suc, ◌+◌, ◌<◌, ◌≤◌, ◌%◌, List, [], ◌∷◌, ◌==◌, Bool, true, false, cond, map, length, All, Option, None, IfSome, IfOk, Result, slice_get}
use Rattle.std.specs.List.{filter}
use Rattle.dn_counts.specs.Counts.{total, times}
use Rattle.dn_told.specs.declared.told.WindowTold.{WindowTold}
use Rattle.dn_told.specs.declared.told.WindowTold.TheVariants.{Included, Late, Repeat}
use Rattle.dn_wire.specs.declared.ids.ClientId.{ClientId}
use Rattle.dn_gate.specs.Draws.{Draw}
use Rattle.dn_gate.specs.History.{told_at}
use Rattle.dn_gate.specs.Pass.{GateId, PassView, IsReady, IsFresh}
use Rattle.dn_gate.specs.Order.{with_number, in_order}
use Rattle.dn_crew.specs.Race.{client_of, numbers_of}
use Rattle.dn_memory.specs.declared.NoMemory.{NoMemory}
use Rattle.dn_crew.specs.declared.sharing.Drawn.{Drawn}
use Rattle.dn_crew.specs.declared.sharing.Share.{Share}
use Rattle.dn_crew.specs.declared.order.Ordered.{Ordered}
use Rattle.dn_crew.specs.declared.order.Ordered.TheVariants.{Submit}

-- what a draw of the gate shows, and what the record of one does
abbrev pub Shown : Type 0
Shown = ℕ × ℕ × WindowTold

abbrev pub shown : Draw → Shown
shown d = (d.place, d.client, told_at d.late)

abbrev pub recorded : List (ClientId × ℕ) → Drawn → Shown
recorded list d = (d.place, client_of list d.number, d.told)

abbrev pub is_included : WindowTold → Bool
is_included Included = true
is_included Late = false
is_included Repeat = false

-- the value that was put by a draw
abbrev pub put_by : List (ClientId × ℕ) → Drawn → ℕ × ℕ
put_by list d = (client_of list d.number, d.number)

-- a pass did what was recorded, and its repeats have this number
pub record IsRecorded (list : List (ClientId × ℕ)) (worker : ℕ) (p : PassView ℕ) (draws : List Drawn) (repeats : List ℕ) : Type 0 where
  pub draws_are : map shown p.draws ≡ map (recorded list) draws
  pub repeats_are : p.repeats ≡ map (λ n. (worker, client_of list n)) repeats
  pub values_are : p.values ≡ map (put_by list) (filter (λ d. is_included d.told) draws)

-- the sum of h over the numbers that were submitted
abbrev pub counted : (ℕ → ℕ) → List Drawn → List ℕ → ℕ
counted h draws repeats = total (λ d. h d.number) draws + total h repeats

-- the numbers of those members whose place leaves w over W, where the first has place k
abbrev pub share_from : ℕ → ℕ → ℕ → List (ClientId × ℕ) → List ℕ
share_from k W w [] = []
share_from k W w (m ∷ list) = cond (k % W == w) (m.1 ∷ share_from (k + 1) W w list) (share_from (k + 1) W w list)

-- what worker w of W did
pub record IsShare (gate : GateId) (list : List (ClientId × ℕ)) (W w : ℕ) (p : PassView ℕ) (draws : List Drawn) (repeats : List ℕ) : Type 0 where
  pub gate_is : p.gate ≡ gate
  pub ready : IsReady p
  pub numbers : p.numbers ≡ w ∷ []
  pub open_still : (p.closing ≡ None) × (p.refused ≡ [])
  pub did : IsRecorded list w p draws repeats
  pub all : (h : ℕ → ℕ) → counted h draws repeats ≡ total h (share_from 0 W w list)

-- the sum of h over the numbers that the first n of W workers take, where the first member has place k
abbrev pub upto : (ℕ → ℕ) → ℕ → ℕ → List (ClientId × ℕ) → ℕ → ℕ
upto h k W list zero = 0
upto h k W list (suc n) = upto h k W list n + total h (share_from k W n list)

-- a pass that did nothing but close, or find closed
pub record IsCloser (gate : GateId) (closing : Option ℕ) (refused : List ℕ) (p : PassView ℕ) : Type 0 where
  pub gate_is : p.gate ≡ gate
  pub ready : IsReady p
  pub one : length p.numbers ≡ 1
  pub nothing : (p.draws ≡ []) × (p.values ≡ []) × (p.repeats ≡ [])
  pub closing_is : p.closing ≡ closing
  pub refused_is : p.refused ≡ refused

-- what the first j of W workers did, and the closer, as one pass
pub record IsGathered (gate : GateId) (list : List (ClientId × ℕ)) (W j : ℕ) (closing : Option ℕ) (refused : List ℕ) (p : PassView ℕ) (draws : List Drawn) (repeats : List ℕ) : Type 0 where
  pub gate_is : p.gate ≡ gate
  pub ready : IsReady p
  pub count : length p.numbers ≡ j + 1
  pub closing_is : p.closing ≡ closing
  pub refused_is : p.refused ≡ refused
  -- the draws are those that were recorded, in another order
  pub draws_are : (g : Shown → ℕ) → total (λ d. g (shown d)) p.draws ≡ total (λ d. g (recorded list d)) draws
  pub repeats_are : map (λ r. r.1) p.repeats ≡ map (client_of list) repeats
  -- the repeats stand in order of their passes
  pub in_turn : in_order j p.repeats ≡ p.repeats
  pub below : (n : ℕ) → j ≤ n → with_number n p.repeats ≡ []
  pub values_are : p.values ≡ map (put_by list) (filter (λ d. is_included d.told) draws)
  pub all : (h : ℕ → ℕ) → counted h draws repeats ≡ upto h 0 W list j

-- where a draw or a repeat stands in an order
abbrev pub placed_of : Drawn → Ordered
placed_of d = Submit d.number

abbrev pub repeat_of : ℕ → Ordered
repeat_of n = Submit n

-- passes that did nothing yet can submit a list, in as many parts as there are passes
pub record CanSubmit (gate : GateId) (passes : List (PassView ℕ)) (list : List (ClientId × ℕ)) : Type 0 where
  pub some : (1 ≤ length passes) × (length passes ≤ 16)
  pub fresh : (w : ℕ) → IfSome (slice_get passes w) (IsFresh gate w)
  pub few : length list ≤ 512
  pub clients : All (λ m. m.0.0 < gate.clients) list
  pub differ : (n : ℕ) → times n (numbers_of list) ≤ 1

-- what the passes did, by number
abbrev pub AreShares : GateId → List (ClientId × ℕ) → ℕ → List (Result Share NoMemory) → Type 0
AreShares gate list W shares = (w : ℕ) → IfSome (slice_get shares w) (λ r. IfOk r (λ s. IsShare gate list W w s.pass s.draws.items s.repeats.items))
