-- The order of the messages.
use Rattle.std.proofs.Common.{◌≡◌, ℕ, suc, ◌+◌, ◌≤◌, List, [], ◌∷◌, ◌++◌, length, filter, cond, Bool, true, false, arith}
use Rattle.dn_flight.specs.Flight.{AreFrom}
use Rattle.dn_flight.specs.declared.msg.Msg.{Msg}

pub put_last : (low : ℕ) (msgs : List Msg) (next : ℕ) (x : Msg) → AreFrom low msgs next → x.id ≡ next → AreFrom low (msgs ++ x ∷ []) (next + 1)
put_last low [] next x h e = (omega (arith, h, e), omega (arith, e))
put_last low (y ∷ msgs) next x h e = (h.0, put_last (y.id + 1) msgs next x h.1 e)

pub lower : (low k : ℕ) (msgs : List Msg) (next : ℕ) → k ≤ low → AreFrom low msgs next → AreFrom k msgs next
lower low k [] next le h = omega (arith, h, le)
lower low k (x ∷ msgs) next le h = (omega (arith, h.0, le), h.1)

pub filtered : (p : Msg → Bool) (low : ℕ) (msgs : List Msg) (next : ℕ) → AreFrom low msgs next → AreFrom low (filter p msgs) next
filtered p low [] next h = h
filtered p low (x ∷ msgs) next h = by (p x) (filtered p (x.id + 1) msgs next h.1)
  where
    by : (b : Bool) → AreFrom (x.id + 1) (filter p msgs) next → AreFrom low (cond b (x ∷ filter p msgs) (filter p msgs)) next
    by true rest = (h.0, rest)
    by false rest = lower (x.id + 1) low (filter p msgs) next (omega (arith, h.0)) rest

pub fewer : (p : Msg → Bool) (msgs : List Msg) → length (filter p msgs) ≤ length msgs
fewer p [] = omega arith
fewer p (x ∷ msgs) = by (p x) (fewer p msgs)
  where
    by : (b : Bool) → length (filter p msgs) ≤ length msgs → length (cond b (x ∷ filter p msgs) (filter p msgs)) ≤ suc (length msgs)
    by true less = omega (arith, less)
    by false less = omega (arith, less)
