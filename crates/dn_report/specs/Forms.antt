-- The form of each line: what stands behind its word, and how it is read.
use Rattle.std.specs.Prelude.{ℕ, nat_lt, ◌&&◌, Bool, true, false, List, [], ◌∷◌, Option}
use Rattle.dn_told.specs.declared.told.WindowTold.{WindowTold}
use Rattle.dn_wire.specs.declared.ids.ClientId.{ClientId}
use Rattle.dn_wire.specs.declared.ids.ServerId.{ServerId}
use Rattle.dn_wire.specs.declared.ids.SlotId.{SlotId}
use Rattle.dn_wire.specs.declared.ids.Round.{Round}
use Rattle.dn_wire.specs.declared.ids.Member.{Member}
use Rattle.dn_wire.specs.declared.ids.Member.TheVariants.{Client, Server}
use Rattle.dn_lines.specs.Field.{Field, made, seen, beside}
use Rattle.dn_lines.specs.Form.{Form, nothing, last, ◌▸◌, each, only}
use Rattle.dn_lines.specs.Fields.{between, number, long_number, bytes, client, server, slot, round, member}
use Rattle.dn_report.specs.declared.pairs.ListedPair.{ListedPair}
use Rattle.dn_report.specs.declared.words.IgnoredWord.{IgnoredWord}
use Rattle.dn_report.specs.declared.words.SpoilWord.{SpoilWord}
use Rattle.dn_report.specs.declared.words.UnopenedWord.{UnopenedWord}
use Rattle.dn_report.specs.declared.words.BlameWord.{BlameWord}
use Rattle.dn_report.specs.declared.outcome.Outcome.{Outcome}
use Rattle.dn_report.specs.declared.outcome.Outcome.TheVariants as outcomes
use Rattle.dn_report.specs.declared.line.EventLine.{EventLine}
use Rattle.dn_report.specs.declared.line.EventLine.TheVariants as events
use Rattle.dn_report.specs.declared.line.ReportLine.{ReportLine}
use Rattle.dn_report.specs.declared.line.ReportLine.TheVariants as lines
use Rattle.dn_report.specs.Words.{told_word, ignored_word, spoil_word, unopened_word, blame_word, yes_word}

-- a client's number without its letter
abbrev pub client_number : Field ClientId
client_number = seen (λ n. record { 0 = n }) (λ i. i.0) number

-- a server's number without its letter
abbrev pub server_number : Field ServerId
server_number = seen (λ n. record { 0 = n }) (λ j. j.0) number

-- the version of a report
abbrev pub version : Field ℕ
version = between 1 2

-- a client's number, `/`, and the number of the server that it is assigned to
abbrev pub pair : Field ListedPair
pair = seen (λ x. record { client = x.0; server = x.1 }) (λ p. (p.client, p.server)) (beside 47 client_number server_number)

-- servers stand first, and each kind ascends by number
abbrev pub comes_before : Member → Member → Bool
comes_before (Server i) (Server j) = nat_lt i.0 j.0
comes_before (Server i) (Client j) = true
comes_before (Client i) (Server j) = false
comes_before (Client i) (Client j) = nat_lt i.0 j.0

-- each of some members may stand behind the one before it, and the first of them behind this one
unfoldable pub follows : Member → List Member → Bool
follows m [] = true
follows m (n ∷ members) = comes_before m n && follows n members

abbrev pub in_order : List Member → Bool
in_order [] = true
in_order (m ∷ members) = follows m members

-- ---- outcome lines

abbrev pub post_line : Form (ℕ × (Member × List ℕ))
post_line = long_number ▸ member ▸ last bytes

unfoldable pub read_post_line : List (List ℕ) → Option Outcome
read_post_line fields = made (λ x. outcomes.Post x.0 x.1.0 x.1.1) (post_line.read fields)

abbrev pub sent_line : Form (ℕ × (ℕ × Member))
sent_line = long_number ▸ long_number ▸ last member

unfoldable pub read_sent_line : List (List ℕ) → Option Outcome
read_sent_line fields = made (λ x. outcomes.Sent x.0 x.1.0 x.1.1) (sent_line.read fields)

abbrev pub full_line : Form (ℕ × Member)
full_line = long_number ▸ last member

unfoldable pub read_full_line : List (List ℕ) → Option Outcome
read_full_line fields = made (λ x. outcomes.Full x.0 x.1) (full_line.read fields)

abbrev pub opened_line : Form (ServerId × (Round × Round))
opened_line = server ▸ round ▸ last round

unfoldable pub read_opened_line : List (List ℕ) → Option Outcome
read_opened_line fields = made (λ x. outcomes.Opened x.0 x.1.0 x.1.1) (opened_line.read fields)

abbrev pub closed_line : Form (ServerId × (Round × ℕ))
closed_line = server ▸ round ▸ last number

unfoldable pub read_closed_line : List (List ℕ) → Option Outcome
read_closed_line fields = made (λ x. outcomes.Closed x.0 x.1.0 x.1.1) (closed_line.read fields)

abbrev pub abandoned_line : Form (ServerId × Round)
abandoned_line = server ▸ last round

unfoldable pub read_abandoned_line : List (List ℕ) → Option Outcome
read_abandoned_line fields = made (λ x. outcomes.Abandoned x.0 x.1) (abandoned_line.read fields)

abbrev pub told_line : Form (ClientId × (ServerId × (Round × WindowTold)))
told_line = client ▸ server ▸ round ▸ last told_word

unfoldable pub read_told_line : List (List ℕ) → Option Outcome
read_told_line fields = made (λ x. outcomes.Told x.0 x.1.0 x.1.1.0 x.1.1.1) (told_line.read fields)

abbrev pub spoiled_line : Form (ServerId × (Round × (ServerId × SpoilWord)))
spoiled_line = server ▸ round ▸ server ▸ last spoil_word

unfoldable pub read_spoiled_line : List (List ℕ) → Option Outcome
read_spoiled_line fields = made (λ x. outcomes.Spoiled x.0 x.1.0 x.1.1.0 x.1.1.1) (spoiled_line.read fields)

abbrev pub certified_line : Form (ServerId × Round)
certified_line = server ▸ last round

unfoldable pub read_certified_line : List (List ℕ) → Option Outcome
read_certified_line fields = made (λ x. outcomes.Certified x.0 x.1) (certified_line.read fields)

abbrev pub held_line : Form (Member × Round)
held_line = member ▸ last round

unfoldable pub read_held_line : List (List ℕ) → Option Outcome
read_held_line fields = made (λ x. outcomes.Held x.0 x.1) (held_line.read fields)

abbrev pub listed_line : Form (Round × List ListedPair)
listed_line = round ▸ each pair

unfoldable pub read_listed_line : List (List ℕ) → Option Outcome
read_listed_line fields = made (λ x. outcomes.Listed x.0 x.1) (listed_line.read fields)

abbrev pub out_line : Form (Round × List ℕ)
out_line = round ▸ last bytes

unfoldable pub read_out_line : List (List ℕ) → Option Outcome
read_out_line fields = made (λ x. outcomes.Out x.0 x.1) (out_line.read fields)

abbrev pub thin_line : Form (Round × (ℕ × ℕ))
thin_line = round ▸ number ▸ last number

unfoldable pub read_thin_line : List (List ℕ) → Option Outcome
read_thin_line fields = made (λ x. outcomes.Thin x.0 x.1.0 x.1.1) (thin_line.read fields)

abbrev pub message_line : Form (Round × (SlotId × List ℕ))
message_line = round ▸ slot ▸ last bytes

unfoldable pub read_message_line : List (List ℕ) → Option Outcome
read_message_line fields = made (λ x. outcomes.Message x.0 x.1.0 x.1.1) (message_line.read fields)

abbrev pub garbled_line : Form (Round × SlotId)
garbled_line = round ▸ last slot

unfoldable pub read_garbled_line : List (List ℕ) → Option Outcome
read_garbled_line fields = made (λ x. outcomes.Garbled x.0 x.1) (garbled_line.read fields)

abbrev pub ignored_line : Form (IgnoredWord)
ignored_line = last ignored_word

unfoldable pub read_ignored_line : List (List ℕ) → Option Outcome
read_ignored_line fields = made (λ x. outcomes.Ignored x) (ignored_line.read fields)

abbrev pub early_line : Form (Unit {0})
early_line = nothing

unfoldable pub read_early_line : List (List ℕ) → Option Outcome
read_early_line fields = made (λ x. outcomes.Early) (early_line.read fields)

abbrev pub taken_line : Form (Unit {0})
taken_line = nothing

unfoldable pub read_taken_line : List (List ℕ) → Option Outcome
read_taken_line fields = made (λ x. outcomes.Taken) (taken_line.read fields)

abbrev pub noted_line : Form (Unit {0})
noted_line = nothing

unfoldable pub read_noted_line : List (List ℕ) → Option Outcome
read_noted_line fields = made (λ x. outcomes.Noted) (noted_line.read fields)

abbrev pub kept_line : Form (Unit {0})
kept_line = nothing

unfoldable pub read_kept_line : List (List ℕ) → Option Outcome
read_kept_line fields = made (λ x. outcomes.Kept) (kept_line.read fields)

abbrev pub dropped_line : Form (ℕ)
dropped_line = last number

unfoldable pub read_dropped_line : List (List ℕ) → Option Outcome
read_dropped_line fields = made (λ x. outcomes.Dropped x) (dropped_line.read fields)

abbrev pub unopened_line : Form (UnopenedWord)
unopened_line = last unopened_word

unfoldable pub read_unopened_line : List (List ℕ) → Option Outcome
read_unopened_line fields = made (λ x. outcomes.Unopened x) (unopened_line.read fields)

abbrev pub blame_line : Form (Member × BlameWord)
blame_line = member ▸ last blame_word

unfoldable pub read_blame_line : List (List ℕ) → Option Outcome
read_blame_line fields = made (λ x. outcomes.Blame x.0 x.1) (blame_line.read fields)

abbrev pub silent_line : Form (Member)
silent_line = last member

unfoldable pub read_silent_line : List (List ℕ) → Option Outcome
read_silent_line fields = made (λ x. outcomes.Silent x) (silent_line.read fields)

-- ---- event lines, behind `@`

abbrev pub say_event : Form (ClientId × List ℕ)
say_event = client ▸ last bytes

unfoldable pub read_say_event : List (List ℕ) → Option EventLine
read_say_event fields = made (λ x. events.Say x.0 x.1) (say_event.read fields)

abbrev pub open_event : Form (ServerId × Round)
open_event = server ▸ last round

unfoldable pub read_open_event : List (List ℕ) → Option EventLine
read_open_event fields = made (λ x. events.Open x.0 x.1) (open_event.read fields)

abbrev pub submit_event : Form (ClientId × (ServerId × Round))
submit_event = client ▸ server ▸ last round

unfoldable pub read_submit_event : List (List ℕ) → Option EventLine
read_submit_event fields = made (λ x. events.Submit x.0 x.1.0 x.1.1) (submit_event.read fields)

abbrev pub deliver_event : Form (ℕ)
deliver_event = last long_number

unfoldable pub read_deliver_event : List (List ℕ) → Option EventLine
read_deliver_event fields = made (λ x. events.Deliver x) (deliver_event.read fields)

abbrev pub lose_event : Form (ℕ)
lose_event = last long_number

unfoldable pub read_lose_event : List (List ℕ) → Option EventLine
read_lose_event fields = made (λ x. events.Lose x) (lose_event.read fields)

abbrev pub tick_event : Form (Unit {0})
tick_event = nothing

unfoldable pub read_tick_event : List (List ℕ) → Option EventLine
read_tick_event fields = made (λ x. events.Tick) (tick_event.read fields)

abbrev pub close_event : Form (ServerId)
close_event = last server

unfoldable pub read_close_event : List (List ℕ) → Option EventLine
read_close_event fields = made (λ x. events.Close x) (close_event.read fields)

abbrev pub abandon_event : Form (ServerId)
abandon_event = last server

unfoldable pub read_abandon_event : List (List ℕ) → Option EventLine
read_abandon_event fields = made (λ x. events.Abandon x) (abandon_event.read fields)

abbrev pub leave_event : Form (ClientId)
leave_event = last client

unfoldable pub read_leave_event : List (List ℕ) → Option EventLine
read_leave_event fields = made (λ x. events.Leave x) (leave_event.read fields)

abbrev pub accuse_event : Form (ClientId × (Round × ℕ))
accuse_event = client ▸ round ▸ last number

unfoldable pub read_accuse_event : List (List ℕ) → Option EventLine
read_accuse_event fields = made (λ x. events.Accuse x.0 x.1.0 x.1.1) (accuse_event.read fields)

abbrev pub judge_event : Form (Round × ℕ)
judge_event = round ▸ last number

unfoldable pub read_judge_event : List (List ℕ) → Option EventLine
read_judge_event fields = made (λ x. events.Judge x.0 x.1) (judge_event.read fields)

abbrev pub inject_event : Form (Member × (Member × ℕ))
inject_event = member ▸ member ▸ last long_number

unfoldable pub read_inject_event : List (List ℕ) → Option EventLine
read_inject_event fields = made (λ x. events.Inject x.0 x.1.0 x.1.1) (inject_event.read fields)

-- ---- marks, behind `@`

abbrev pub race_mark : Form (ServerId × ℕ)
race_mark = server ▸ last number

unfoldable pub read_race_mark : List (List ℕ) → Option ReportLine
read_race_mark fields = made (λ x. lines.Race x.0 x.1) (race_mark.read fields)

abbrev pub board_mark : Form (ServerId × ℕ)
board_mark = server ▸ last long_number

unfoldable pub read_board_mark : List (List ℕ) → Option ReportLine
read_board_mark fields = made (λ x. lines.Board x.0 x.1) (board_mark.read fields)

-- ---- the header, and the last two lines

abbrev pub report_header : Form (ℕ)
report_header = last version

unfoldable pub read_report_header : List (List ℕ) → Option ReportLine
read_report_header fields = made (λ x. lines.Report x) (report_header.read fields)

abbrev pub group_header : Form (ℕ × (ℕ × (ℕ × (ℕ × ℕ))))
group_header = number ▸ number ▸ number ▸ number ▸ last number

unfoldable pub read_group_header : List (List ℕ) → Option ReportLine
read_group_header fields = made (λ x. lines.Group x.0 x.1.0 x.1.1.0 x.1.1.1.0 x.1.1.1.1) (group_header.read fields)

abbrev pub client_key_header : Form (ClientId × List ℕ)
client_key_header = client_number ▸ last bytes

unfoldable pub read_client_key_header : List (List ℕ) → Option ReportLine
read_client_key_header fields = made (λ x. lines.ClientKey x.0 x.1) (client_key_header.read fields)

abbrev pub server_key_header : Form (ServerId × List ℕ)
server_key_header = server_number ▸ last bytes

unfoldable pub read_server_key_header : List (List ℕ) → Option ReportLine
read_server_key_header fields = made (λ x. lines.ServerKey x.0 x.1) (server_key_header.read fields)

abbrev pub slot_key_header : Form (SlotId × List ℕ)
slot_key_header = slot ▸ last bytes

unfoldable pub read_slot_key_header : List (List ℕ) → Option ReportLine
read_slot_key_header fields = made (λ x. lines.SlotKey x.0 x.1) (slot_key_header.read fields)

abbrev pub seal_header : Form (ClientId × (ServerId × List ℕ))
seal_header = client_number ▸ server_number ▸ last bytes

unfoldable pub read_seal_header : List (List ℕ) → Option ReportLine
read_seal_header fields = made (λ x. lines.Seal x.0 x.1.0 x.1.1) (seal_header.read fields)

abbrev pub corrupt_header : Form (List Member)
corrupt_header = only in_order (each member)

unfoldable pub read_corrupt_header : List (List ℕ) → Option ReportLine
read_corrupt_header fields = made (λ x. lines.Corrupt x) (corrupt_header.read fields)

abbrev pub audit_header : Form (Bool × (Bool × Bool))
audit_header = yes_word ▸ yes_word ▸ last yes_word

unfoldable pub read_audit_header : List (List ℕ) → Option ReportLine
read_audit_header fields = made (λ x. lines.Audit x.0 x.1.0 x.1.1) (audit_header.read fields)

abbrev pub end_header : Form (Unit {0})
end_header = nothing

unfoldable pub read_end_header : List (List ℕ) → Option ReportLine
read_end_header fields = made (λ x. lines.End) (end_header.read fields)
