-- What contracts see of a window, and the events that led to it.
use Rattle.std.specs.Prelude.{◌≡◌, ℕ, ◌+◌, ◌<◌, ◌≤◌, ◌==◌, ◌&&◌, nat_le, not, Bool, true, false, List, length, replicate, slice_index_or, slice_set, count_by, if◌then◌else◌}
use Rattle.dn_told.specs.Window.{WindowEvent, has_submitted, is_closed}
use Rattle.dn_told.specs.declared.told.WindowTold.{WindowTold}
use Rattle.dn_told.specs.declared.told.WindowTold.TheVariants.{Included, Late, Repeat}
use Rattle.dn_window.specs.Closing.{ticks_of, count_of, enough, closing_after, closing_tick_of}

-- how many clients are expected, which clients submitted, how many were told Included, the ticks counted, the closing tick as it
-- stands, and whether the window is closed
pub record WindowState : Type 0 where
  pub expected : ℕ
  pub submitted : List Bool
  pub count : ℕ
  pub ticks : ℕ
  pub closing_tick : ℕ
  pub closed : Bool

-- how many clients the window is for
abbrev pub clients_of : WindowState → ℕ
clients_of w = length w.submitted

-- client i submitted
abbrev pub has_of : WindowState → ℕ → Bool
has_of w i = slice_index_or w.submitted i false

-- the window stands as these events left it
pub record IsAfter (w : WindowState) (events : List WindowEvent) : Type 0 where
  pub submitted : (i : ℕ) → i < clients_of w → has_of w i ≡ has_submitted events i
  pub count : w.count ≡ count_of events
  pub ticks : w.ticks ≡ ticks_of events
  pub closing_tick : w.closing_tick ≡ closing_tick_of w.expected events
  pub closed : w.closed ≡ is_closed events

-- a window before any event
abbrev pub opened : ℕ → ℕ → WindowState
opened n expected =
    record { expected = expected; submitted = replicate n false; count = 0; ticks = 0; closing_tick = if enough expected == 0 then closing_after 0 else 100; closed = false }

-- what the window tells client i
abbrev pub told_by : WindowState → ℕ → WindowTold
told_by w i = if has_of w i then Repeat else (if w.closed then Late else Included)

-- the window with one submission more that is told Included
abbrev pub with_included : WindowState → ℕ → WindowState
with_included w i =
    record w { submitted = slice_set w.submitted i true; count = w.count + 1; closing_tick = if w.count + 1 == enough w.expected then closing_after w.ticks else w.closing_tick }

-- the window after a submission of client i
abbrev pub with_submission : WindowState → ℕ → WindowState
with_submission w i =
    if has_of w i then w else (if w.closed then record w { submitted = slice_set w.submitted i true } else with_included w i)

-- the next tick closes the window
abbrev pub is_due : WindowState → Bool
is_due w = not w.closed && nat_le w.closing_tick (w.ticks + 1)

-- the window after a tick
abbrev pub ticked : WindowState → WindowState
ticked w = if w.closed then w else record w { ticks = w.ticks + 1; closed = is_due w }

-- what every window keeps: it has counted no more submissions than clients submitted, and an open one has not come to its closing tick
pub record IsKept (w : WindowState) : Type 0 where
  pub few : w.count ≤ count_by (λ b. b) w.submitted
  pub limit : w.closing_tick ≤ 100
  pub ahead : w.closed ≡ false → w.ticks < w.closing_tick
  pub size : clients_of w < 4294967296
