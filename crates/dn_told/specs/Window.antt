-- What a window tells each client that submits: one list of events, and the places in it.
use Rattle.std.specs.Prelude.{ℕ, ◌==◌, ◌||◌, Bool, true, false, List, [], ◌∷◌, ◌++◌, Option, Some, None, if◌then◌else◌}
use Rattle.std.specs.List.{list_any, filter_map}
use Rattle.dn_told.specs.declared.told.WindowTold.{WindowTold}
use Rattle.dn_told.specs.declared.told.WindowTold.TheVariants.{Included, Late, Repeat}

-- a client submits, a tick of time is counted, or the window closes
pub data WindowEvent : Type 0 where
  Submit : ℕ → WindowEvent
  Tick : WindowEvent
  Close : WindowEvent

-- the event is a Submit of client i
abbrev pub is_submit_of : ℕ → WindowEvent → Bool
is_submit_of i (Submit j) = j == i
is_submit_of i Tick = false
is_submit_of i Close = false

-- the event is a Close
abbrev pub is_close : WindowEvent → Bool
is_close (Submit i) = false
is_close Tick = false
is_close Close = true

-- client i is one of the list
abbrev pub is_among : List ℕ → ℕ → Bool
is_among clients i = list_any (λ j. j == i) clients

-- client i submitted
abbrev pub has_submitted : List WindowEvent → ℕ → Bool
has_submitted events i = list_any (is_submit_of i) events

-- the window closed
abbrev pub is_closed : List WindowEvent → Bool
is_closed events = list_any is_close events

-- what client i is told that submits right after the events `past`, where the clients of `before` count as there before: its first
-- Submit is Included before the Close and Late after it, and each other is Repeat
unfoldable pub told_after : List ℕ → List WindowEvent → ℕ → WindowTold
told_after before past i =
    if is_among before i || has_submitted past i then Repeat else (if is_closed past then Late else Included)

-- who is told what at the events that follow on `past`, in order of places
abbrev pub answers_after : List ℕ → List WindowEvent → List WindowEvent → List (ℕ × WindowTold)
answers_after before past [] = []
answers_after before past (Submit i ∷ events) =
    (i, told_after before past i) ∷ answers_after before (past ++ Submit i ∷ []) events
answers_after before past (Tick ∷ events) = answers_after before (past ++ Tick ∷ []) events
answers_after before past (Close ∷ events) = answers_after before (past ++ Close ∷ []) events

-- who is told what over the whole list of events, in order of places
abbrev pub answers : List ℕ → List WindowEvent → List (ℕ × WindowTold)
answers before events = answers_after before [] events

-- the client, where it is told Included
abbrev pub included_client : ℕ × WindowTold → Option ℕ
included_client (i, Included) = Some i
included_client (i, Late) = None
included_client (i, Repeat) = None

-- the clients told Included, in the order in which they submitted
abbrev pub included : List ℕ → List WindowEvent → List ℕ
included before events = filter_map included_client (answers before events)
