-- When a window closes by itself.
use Rattle.std.specs.Prelude.{ℕ, ◌+◌, ◌*◌, ◌/◌, nat_le, min, max, not, ◌&&◌, count_by, Bool, true, false, List, [], ◌∷◌, ◌++◌, length, if◌then◌else◌}
use Rattle.dn_told.specs.Window.{WindowEvent, Submit, Tick, Close, is_closed, included}

-- the event is a tick
abbrev pub is_tick : WindowEvent → Bool
is_tick (Submit i) = false
is_tick Tick = true
is_tick Close = false

-- the ticks counted
abbrev pub ticks_of : List WindowEvent → ℕ
ticks_of events = count_by is_tick events

-- the submissions told Included
abbrev pub count_of : List WindowEvent → ℕ
count_of events = length (included [] events)

-- ninety-five of each hundred clients expected, rounded up
abbrev pub enough : ℕ → ℕ
enough expected = (95 * expected + 99) / 100

-- a tenth more than t ticks, rounded up, and at least one tick more; never above 100
abbrev pub closing_after : ℕ → ℕ
closing_after t = min 100 (max (t + 1) ((11 * t + 9) / 10))

-- the closing tick at the events that follow on `past`: it is set where enough submissions are first in, and is 100 until then
abbrev pub closing_from : ℕ → List WindowEvent → List WindowEvent → ℕ
closing_from expected past [] = if nat_le (enough expected) (count_of past) then closing_after (ticks_of past) else 100
closing_from expected past (e ∷ events) =
    if nat_le (enough expected) (count_of past) then closing_after (ticks_of past)
    else closing_from expected (past ++ e ∷ []) events

-- the closing tick of a window that expects so many clients, after these events
unfoldable pub closing_tick_of : ℕ → List WindowEvent → ℕ
closing_tick_of expected events = closing_from expected [] events

-- a tick that comes now closes the window
abbrev pub tick_closes : ℕ → List WindowEvent → Bool
tick_closes expected events = not (is_closed events) && nat_le (closing_tick_of expected events) (ticks_of events + 1)

-- the events with what a tick adds: nothing to a closed window
abbrev pub with_tick : ℕ → List WindowEvent → List WindowEvent
with_tick expected events =
    if is_closed events then events
    else (if tick_closes expected events then events ++ Tick ∷ Close ∷ [] else events ++ Tick ∷ [])

-- the events with what a call of `close` adds: nothing to a closed window
abbrev pub with_close : List WindowEvent → List WindowEvent
with_close events = if is_closed events then events else events ++ Close ∷ []
