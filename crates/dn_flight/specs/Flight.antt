-- The messages in flight, as a list in order of their numbers.
use Rattle.std.specs.Prelude.{◌≡◌, ℕ, ◌+◌, ◌≤◌, ◌⊎◌, List, [], ◌∷◌, Bool, false, cond, not, ◌==◌, nat_lt, length, filter, Option, Some, None}
use Rattle.dn_wire.specs.declared.limits.TheConstants.{MAX_FLIGHT}
use Rattle.dn_wire.specs.declared.ids.Member.{Member}
use Rattle.dn_wire.specs.declared.ids.Member.TheVariants.{Client, Server}
use Rattle.dn_flight.specs.declared.msg.Msg.{Msg}

-- the messages, and the number of the next one
pub record FlightView : Type 0 where
  pub msgs : List Msg
  pub next : ℕ

abbrev pub is_member : Member → Member → Bool
is_member (Client a) (Client b) = a.0 == b.0
is_member (Client a) (Server b) = false
is_member (Server a) (Client b) = false
is_member (Server a) (Server b) = a.0 == b.0

abbrev pub is_from : Member → Msg → Bool
is_from m x = is_member x.from m

abbrev pub is_to : Member → Msg → Bool
is_to m x = is_member x.to m

-- the message with this number
abbrev pub with_id : ℕ → List Msg → Option Msg
with_id id [] = None
with_id id (x ∷ msgs) = cond (x.id == id) (Some x) (with_id id msgs)

-- all but it
abbrev pub without_id : ℕ → List Msg → List Msg
without_id id msgs = filter (λ x. not (x.id == id)) msgs

-- the number of the first, which is the least
abbrev pub first_id : List Msg → Option ℕ
first_id [] = None
first_id (x ∷ msgs) = Some x.id

-- those with a greater number
abbrev pub after_id : ℕ → List Msg → List Msg
after_id id msgs = filter (λ x. nat_lt id x.id) msgs

-- those to this receiver
abbrev pub all_to : Member → List Msg → List Msg
all_to m msgs = filter (is_to m) msgs

-- the number of the next message after this one to its receiver
abbrev pub next_in : ℕ → Option Msg → List Msg → Option ℕ
next_in id None msgs = None
next_in id (Some x) msgs = first_id (after_id id (all_to x.to msgs))

-- no further message may be put
abbrev pub IsFull : FlightView → Type 0
IsFull f = (MAX_FLIGHT ≤ length f.msgs) ⊎ (f.next ≡ 18446744073709551615)

-- the numbers ascend, from low on, and are below next
abbrev pub AreFrom : ℕ → List Msg → ℕ → Type 0
AreFrom low [] next = low ≤ next
AreFrom low (x ∷ msgs) next = (low ≤ x.id) × AreFrom (x.id + 1) msgs next
