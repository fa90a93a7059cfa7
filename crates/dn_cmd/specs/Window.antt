-- The submission window of a plain script: one list of events, and the lines that tell them.
use Rattle.std.specs.Prelude.{◌≡◌, ◌<◌, ℕ, zero, suc, not, ◌&&◌, Bool, true, false, List, [], ◌∷◌, ◌++◌, map, filter, slice_set, codes, if◌then◌else◌}
use Rattle.std.specs.List.{list_any}
use Rattle.std.specs.Fmt.{decimal}
use Rattle.dn_bits.specs.Bits.{below}
use Rattle.dn_told.specs.declared.told.WindowTold.{WindowTold}
use Rattle.dn_told.specs.declared.told.WindowTold.TheVariants.{Included, Late, Repeat}
use Rattle.dn_told.specs.Window.{WindowEvent, told_after, is_among, is_closed, included}
use Rattle.dn_told.specs.Window as event
use Rattle.dn_window.specs.Closing.{ticks_of, count_of, with_tick, with_close}
use Rattle.dn_window.specs.Window.{WindowState, IsAfter, clients_of}
use Rattle.dn_script.specs.Plain.{Plain}
use Rattle.dn_script.specs.declared.plain_line.PlainLine.{PlainLine}
use Rattle.dn_script.specs.declared.plain_line.PlainLine.TheVariants.{Say, Submit, Tick, Close}

-- the line is one of a window
abbrev pub is_window_line : PlainLine → Bool
is_window_line (Say client message) = false
is_window_line (Submit client) = true
is_window_line (Tick count) = true
is_window_line Close = true

-- a script has a window where it has a line of one; else all its clients count
abbrev pub has_window : List PlainLine → Bool
has_window lines = list_any is_window_line lines

-- the events with those of so many ticks
abbrev pub with_ticks : ℕ → ℕ → List WindowEvent → List WindowEvent
with_ticks expected zero past = past
with_ticks expected (suc count) past = with_ticks expected count (with_tick expected past)

-- the events with those of a line, in a window that expects so many clients
abbrev pub with_line : ℕ → PlainLine → List WindowEvent → List WindowEvent
with_line expected (Say client message) past = past
with_line expected (Submit client) past = past ++ event.Submit client.0 ∷ []
with_line expected (Tick count) past = with_ticks expected count past
with_line expected Close past = with_close past

-- the events with those of some lines
abbrev pub with_lines : ℕ → List PlainLine → List WindowEvent → List WindowEvent
with_lines expected [] past = past
with_lines expected (line ∷ lines) past = with_lines expected lines (with_line expected line past)

-- what a client is told, as a word
abbrev pub told_word : WindowTold → List ℕ
told_word Included = codes "included"
told_word Late = codes "late"
told_word Repeat = codes "repeat"

-- what a client is told
abbrev pub told_line : ℕ → WindowTold → List ℕ
told_line i told = codes "told " ++ decimal i ++ codes " " ++ told_word told ++ codes "\n"

-- a window is closed that counted so many ticks and told so many clients Included
abbrev pub closed_text : ℕ → ℕ → List ℕ
closed_text ticks count = codes "closed " ++ decimal ticks ++ codes " " ++ decimal count ++ codes "\n"

-- the same of the window of these events
abbrev pub closed_line : List WindowEvent → List ℕ
closed_line events = closed_text (ticks_of events) (count_of events)

-- what so many ticks write behind these events: where one of them closes the window, that is told
abbrev pub ticks_text : ℕ → ℕ → List WindowEvent → List ℕ
ticks_text expected count past =
    let after = with_ticks expected count past in
    if not (is_closed past) && is_closed after then closed_line after else []

-- what a line `close` writes
abbrev pub close_text : List WindowEvent → List ℕ
close_text past = if is_closed past then codes "ignored shut\n" else closed_line (with_close past)

-- what a line writes behind these events
abbrev pub answer_to : ℕ → PlainLine → List WindowEvent → List ℕ
answer_to expected (Say client message) past = []
answer_to expected (Submit client) past = told_line client.0 (told_after [] past client.0)
answer_to expected (Tick count) past = ticks_text expected count past
answer_to expected Close past = close_text past

-- what the last line writes: it closes a window that is open
abbrev pub end_text : List WindowEvent → List ℕ
end_text past = if is_closed past then [] else closed_line (with_close past)

-- what some lines and the last write behind these events
abbrev pub lines_text : ℕ → List PlainLine → List WindowEvent → List ℕ
lines_text expected [] past = end_text past
lines_text expected (line ∷ lines) past =
    answer_to expected line past ++ lines_text expected lines (with_line expected line past)

-- client i was told Included
abbrev pub is_included : List WindowEvent → ℕ → Bool
is_included events i = is_among (included [] events) i

-- what the window of a script writes, if it has one
abbrev pub window_text : Plain → List ℕ
window_text p = if has_window p.lines then lines_text p.clients p.lines [] else []

-- the clients that count, in order: those told Included where the script has a window, else all
abbrev pub counted : Plain → List ℕ
counted p =
    if has_window p.lines then filter (is_included (with_lines p.clients p.lines [])) (below p.clients)
    else below p.clients

-- a window over so many clients, and the marks of the clients that it told Included, stand as these events left them
pub record IsAt (clients : ℕ) (window : WindowState) (marks : List Bool) (past : List WindowEvent) : Type 0 where
  pub after : IsAfter window past
  pub size : clients_of window ≡ clients
  pub expects : window.expected ≡ clients
  pub marked : marks ≡ map (is_included past) (below clients)

-- a client that submits is one of so many
abbrev pub IsWithin : ℕ → PlainLine → Type 0
IsWithin clients (Say client message) = Unit {0}
IsWithin clients (Submit client) = client.0 < clients
IsWithin clients (Tick count) = Unit {0}
IsWithin clients Close = Unit {0}

-- the marks after a client is told this
abbrev pub marked_by : WindowTold → ℕ → List Bool → List Bool
marked_by Included i marks = slice_set marks i true
marked_by Late i marks = marks
marked_by Repeat i marks = marks
