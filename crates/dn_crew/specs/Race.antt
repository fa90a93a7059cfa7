-- The order of a race, for a list of submissions, each a client with the number of its submission.
use Rattle.std.specs.Prelude.{ℕ, List, [], ◌∷◌, ◌==◌, cond, map}
use Rattle.dn_told.specs.Window.{WindowEvent}
use Rattle.dn_told.specs.Window as window
use Rattle.dn_wire.specs.declared.ids.ClientId.{ClientId}
use Rattle.dn_crew.specs.declared.order.Ordered.{Ordered}
use Rattle.dn_crew.specs.declared.order.Ordered.TheVariants.{Submit, Close}

abbrev pub numbers_of : List (ClientId × ℕ) → List ℕ
numbers_of list = map (λ m. m.1) list

-- the client whose submission has the number
abbrev pub client_of : List (ClientId × ℕ) → ℕ → ℕ
client_of [] n = 0
client_of (m ∷ list) n = cond (m.1 == n) m.0.0 (client_of list n)

-- the event that stands in the gate's history
abbrev pub event_of : List (ClientId × ℕ) → Ordered → WindowEvent
event_of list (Submit n) = window.Submit (client_of list n)
event_of list Close = window.Close

-- the numbers of the submissions in an order
abbrev pub submitted : List Ordered → List ℕ
submitted [] = []
submitted (Submit n ∷ order) = n ∷ submitted order
submitted (Close ∷ order) = submitted order

-- those that stand before the closing
abbrev pub in_time : List Ordered → List ℕ
in_time [] = []
in_time (Submit n ∷ order) = n ∷ in_time order
in_time (Close ∷ order) = []
