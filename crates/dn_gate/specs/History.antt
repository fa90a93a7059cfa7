-- The one history of a gate: what a pass that stands for all knows that its passes were told, in one order.
use Rattle.std.specs.Prelude.{◌≡◌, ℕ, ◌≤◌, ◌+◌, List, ◌∷◌, ◌++◌, ◌==◌, length, map, count_by, take, drop, Option, Some, None, IfSome}
use Rattle.std.specs.List.{range_with_len}
use Rattle.dn_told.specs.declared.told.WindowTold.{WindowTold}
use Rattle.dn_told.specs.declared.told.WindowTold.TheVariants.{Included, Late, Repeat}
use Rattle.dn_told.specs.Window.{WindowEvent, Submit, Close, answers, included}
use Rattle.dn_gate.specs.Draws.{Draw}
use Rattle.dn_gate.specs.Order.{with_number, in_order}
use Rattle.dn_gate.specs.Pass.{PassView}
use Rattle.dn_gate.specs.Rule.{closed, IsShut}
use mathlib.Core.Option.{some}
use lib.ListN.{get_elem?}

abbrev pub submissions : List Draw → List WindowEvent
submissions = map (λ d. Submit d.client)

-- the draws by place, with the Close before the draw whose place is the closing's count, or at the end
abbrev pub drawn : Option ℕ → List Draw → List WindowEvent
drawn None ds = submissions ds
drawn (Some count) ds = submissions (take count ds) ++ Close ∷ submissions (drop count ds)

-- what a draw was told
abbrev pub told_at : Option ℕ → WindowTold
told_at None = Included
told_at (Some seen) = Late

module _ {T : Type 0} where
  -- the repeats, by the number of the pass that made each, and each pass's in its order
  abbrev pub repeats_of : PassView T → List (ℕ × ℕ)
  repeats_of p = in_order p.gate.passes p.repeats

  -- the draws and the Close, and then the repeats
  abbrev pub history : PassView T → List WindowEvent
  history p = drawn p.closing p.draws ++ map (λ r. Submit r.1) (repeats_of p)

  -- what each submission was told, in the order of the history
  abbrev pub told : PassView T → List (ℕ × WindowTold)
  told p = map (λ d. (d.client, told_at d.late)) p.draws ++ map (λ r. (r.1, Repeat)) (repeats_of p)

  -- the history has the answers of one window, which a single thread would have got
  pub record IsHistory (p : PassView T) : Type 0 where
    pub one_thread : answers p.gate.before (history p) ≡ told p
    -- the draws have the places 0, 1 and so on, and the Close is before one of them or at the end
    pub places : map (λ d. d.place) p.draws ≡ range_with_len 0 (length p.draws)
    pub cut : IfSome p.closing (λ count. count ≤ length p.draws)
    -- each repeat is in it once, and those of one pass are in their order
    pub repeats : (number : ℕ) → with_number number (repeats_of p) ≡ with_number number p.repeats
    -- a close that was refused found the gate closed: one of its passes made the closing
    pub refused : (j w : ℕ) → get_elem? p.refused j ≡ some w → IsShut p.closing w × (w ≤ closed + length p.draws)
    -- the clients that put a value are those that were told Included
    pub values : (client : ℕ) → length (with_number client p.values) ≡ count_by (λ i. i == client) (included p.gate.before (history p))
