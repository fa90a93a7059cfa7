-- Report lines: the fields of each, what is asked of it, its text, and how it is read.
use Rattle.std.specs.Prelude.{ℕ, ◌-◌, ◌==◌, ◌&&◌, nat_lt, List, [], ◌∷◌, ◌++◌, length, take, slice_index, codes, Option, Some, None, if◌then◌else◌}
use Rattle.std.specs.Str.{bytes_eq}
use Rattle.dn_lines.specs.Field.{◌>>=◌, made}
use Rattle.dn_lines.specs.Form.{Kind, of_kind, no_other, spaced, fields_in}
use Rattle.dn_report.specs.declared.outcome.Outcome.{Outcome}
use Rattle.dn_report.specs.declared.outcome.Outcome.TheVariants as outcomes
use Rattle.dn_report.specs.declared.line.EventLine.{EventLine}
use Rattle.dn_report.specs.declared.line.EventLine.TheVariants as events
use Rattle.dn_report.specs.declared.line.ReportLine.{ReportLine}
use Rattle.dn_report.specs.declared.line.ReportLine.TheVariants as lines
use Rattle.dn_report.specs.Forms.{post_line, sent_line, full_line, opened_line, closed_line, abandoned_line, told_line, spoiled_line, certified_line, held_line, listed_line, out_line, thin_line, message_line, garbled_line, ignored_line, early_line, taken_line, noted_line, kept_line, dropped_line, unopened_line, blame_line, silent_line, say_event, open_event, submit_event, deliver_event, lose_event, tick_event, close_event, abandon_event, leave_event, accuse_event, judge_event, inject_event, race_mark, board_mark, report_header, group_header, client_key_header, server_key_header, slot_key_header, seal_header, corrupt_header, audit_header, end_header, read_post_line, read_sent_line, read_full_line, read_opened_line, read_closed_line, read_abandoned_line, read_told_line, read_spoiled_line, read_certified_line, read_held_line, read_listed_line, read_out_line, read_thin_line, read_message_line, read_garbled_line, read_ignored_line, read_early_line, read_taken_line, read_noted_line, read_kept_line, read_dropped_line, read_unopened_line, read_blame_line, read_silent_line, read_say_event, read_open_event, read_submit_event, read_deliver_event, read_lose_event, read_tick_event, read_close_event, read_abandon_event, read_leave_event, read_accuse_event, read_judge_event, read_inject_event, read_race_mark, read_board_mark, read_report_header, read_group_header, read_client_key_header, read_server_key_header, read_slot_key_header, read_seal_header, read_corrupt_header, read_audit_header, read_end_header}

-- ---- outcome lines

-- the fields of an outcome line
abbrev pub outcome_fields : Outcome → List (List ℕ)
outcome_fields (outcomes.Post payload by bytes) = codes "post" ∷ post_line.spell (payload, (by, bytes))
outcome_fields (outcomes.Sent id payload to) = codes "sent" ∷ sent_line.spell (id, (payload, to))
outcome_fields (outcomes.Full payload to) = codes "full" ∷ full_line.spell (payload, to)
outcome_fields (outcomes.Opened server r prev) = codes "opened" ∷ opened_line.spell (server, (r, prev))
outcome_fields (outcomes.Closed server r count) = codes "closed" ∷ closed_line.spell (server, (r, count))
outcome_fields (outcomes.Abandoned server r) = codes "abandoned" ∷ abandoned_line.spell (server, r)
outcome_fields (outcomes.Told client server r told) = codes "told" ∷ told_line.spell (client, (server, (r, told)))
outcome_fields (outcomes.Spoiled server r by reason) = codes "spoiled" ∷ spoiled_line.spell (server, (r, (by, reason)))
outcome_fields (outcomes.Certified server r) = codes "certified" ∷ certified_line.spell (server, r)
outcome_fields (outcomes.Held member r) = codes "held" ∷ held_line.spell (member, r)
outcome_fields (outcomes.Listed r pairs) = codes "listed" ∷ listed_line.spell (r, pairs)
outcome_fields (outcomes.Out r bytes) = codes "out" ∷ out_line.spell (r, bytes)
outcome_fields (outcomes.Thin r count last) = codes "thin" ∷ thin_line.spell (r, (count, last))
outcome_fields (outcomes.Message r slot text) = codes "message" ∷ message_line.spell (r, (slot, text))
outcome_fields (outcomes.Garbled r slot) = codes "garbled" ∷ garbled_line.spell (r, slot)
outcome_fields (outcomes.Ignored word) = codes "ignored" ∷ ignored_line.spell word
outcome_fields outcomes.Early = codes "early" ∷ early_line.spell tt
outcome_fields outcomes.Taken = codes "taken" ∷ taken_line.spell tt
outcome_fields outcomes.Noted = codes "noted" ∷ noted_line.spell tt
outcome_fields outcomes.Kept = codes "kept" ∷ kept_line.spell tt
outcome_fields (outcomes.Dropped count) = codes "dropped" ∷ dropped_line.spell count
outcome_fields (outcomes.Unopened word) = codes "unopened" ∷ unopened_line.spell word
outcome_fields (outcomes.Blame member reason) = codes "blame" ∷ blame_line.spell (member, reason)
outcome_fields (outcomes.Silent member) = codes "silent" ∷ silent_line.spell member

-- its numbers are in their ranges
abbrev pub IsOutcome : Outcome → Type 0
IsOutcome (outcomes.Post payload by bytes) = post_line.Fits (payload, (by, bytes))
IsOutcome (outcomes.Sent id payload to) = sent_line.Fits (id, (payload, to))
IsOutcome (outcomes.Full payload to) = full_line.Fits (payload, to)
IsOutcome (outcomes.Opened server r prev) = opened_line.Fits (server, (r, prev))
IsOutcome (outcomes.Closed server r count) = closed_line.Fits (server, (r, count))
IsOutcome (outcomes.Abandoned server r) = abandoned_line.Fits (server, r)
IsOutcome (outcomes.Told client server r told) = told_line.Fits (client, (server, (r, told)))
IsOutcome (outcomes.Spoiled server r by reason) = spoiled_line.Fits (server, (r, (by, reason)))
IsOutcome (outcomes.Certified server r) = certified_line.Fits (server, r)
IsOutcome (outcomes.Held member r) = held_line.Fits (member, r)
IsOutcome (outcomes.Listed r pairs) = listed_line.Fits (r, pairs)
IsOutcome (outcomes.Out r bytes) = out_line.Fits (r, bytes)
IsOutcome (outcomes.Thin r count last) = thin_line.Fits (r, (count, last))
IsOutcome (outcomes.Message r slot text) = message_line.Fits (r, (slot, text))
IsOutcome (outcomes.Garbled r slot) = garbled_line.Fits (r, slot)
IsOutcome (outcomes.Ignored word) = ignored_line.Fits word
IsOutcome outcomes.Early = early_line.Fits tt
IsOutcome outcomes.Taken = taken_line.Fits tt
IsOutcome outcomes.Noted = noted_line.Fits tt
IsOutcome outcomes.Kept = kept_line.Fits tt
IsOutcome (outcomes.Dropped count) = dropped_line.Fits count
IsOutcome (outcomes.Unopened word) = unopened_line.Fits word
IsOutcome (outcomes.Blame member reason) = blame_line.Fits (member, reason)
IsOutcome (outcomes.Silent member) = silent_line.Fits member

abbrev pub outcome_kinds : List (Kind Outcome)
outcome_kinds =
    record { word = codes "post"; read = read_post_line }
    ∷ record { word = codes "sent"; read = read_sent_line }
    ∷ record { word = codes "full"; read = read_full_line }
    ∷ record { word = codes "opened"; read = read_opened_line }
    ∷ record { word = codes "closed"; read = read_closed_line }
    ∷ record { word = codes "abandoned"; read = read_abandoned_line }
    ∷ record { word = codes "told"; read = read_told_line }
    ∷ record { word = codes "spoiled"; read = read_spoiled_line }
    ∷ record { word = codes "certified"; read = read_certified_line }
    ∷ record { word = codes "held"; read = read_held_line }
    ∷ record { word = codes "listed"; read = read_listed_line }
    ∷ record { word = codes "out"; read = read_out_line }
    ∷ record { word = codes "thin"; read = read_thin_line }
    ∷ record { word = codes "message"; read = read_message_line }
    ∷ record { word = codes "garbled"; read = read_garbled_line }
    ∷ record { word = codes "ignored"; read = read_ignored_line }
    ∷ record { word = codes "early"; read = read_early_line }
    ∷ record { word = codes "taken"; read = read_taken_line }
    ∷ record { word = codes "noted"; read = read_noted_line }
    ∷ record { word = codes "kept"; read = read_kept_line }
    ∷ record { word = codes "dropped"; read = read_dropped_line }
    ∷ record { word = codes "unopened"; read = read_unopened_line }
    ∷ record { word = codes "blame"; read = read_blame_line }
    ∷ record { word = codes "silent"; read = read_silent_line }
    ∷ []

-- the outcome line of this word and the fields behind it
unfoldable pub read_outcome : List ℕ → List (List ℕ) → Option Outcome
read_outcome word fields = of_kind outcome_kinds no_other word fields

-- ---- event lines

-- the fields of an event line behind `@`
abbrev pub event_fields : EventLine → List (List ℕ)
event_fields (events.Say client text) = codes "say" ∷ say_event.spell (client, text)
event_fields (events.Open server r) = codes "open" ∷ open_event.spell (server, r)
event_fields (events.Submit client server r) = codes "submit" ∷ submit_event.spell (client, (server, r))
event_fields (events.Deliver id) = codes "deliver" ∷ deliver_event.spell id
event_fields (events.Lose id) = codes "lose" ∷ lose_event.spell id
event_fields events.Tick = codes "tick" ∷ tick_event.spell tt
event_fields (events.Close server) = codes "close" ∷ close_event.spell server
event_fields (events.Abandon server) = codes "abandon" ∷ abandon_event.spell server
event_fields (events.Leave client) = codes "leave" ∷ leave_event.spell client
event_fields (events.Accuse client r k) = codes "accuse" ∷ accuse_event.spell (client, (r, k))
event_fields (events.Judge r k) = codes "judge" ∷ judge_event.spell (r, k)
event_fields (events.Inject from to payload) = codes "inject" ∷ inject_event.spell (from, (to, payload))

abbrev pub IsEvent : EventLine → Type 0
IsEvent (events.Say client text) = say_event.Fits (client, text)
IsEvent (events.Open server r) = open_event.Fits (server, r)
IsEvent (events.Submit client server r) = submit_event.Fits (client, (server, r))
IsEvent (events.Deliver id) = deliver_event.Fits id
IsEvent (events.Lose id) = lose_event.Fits id
IsEvent events.Tick = tick_event.Fits tt
IsEvent (events.Close server) = close_event.Fits server
IsEvent (events.Abandon server) = abandon_event.Fits server
IsEvent (events.Leave client) = leave_event.Fits client
IsEvent (events.Accuse client r k) = accuse_event.Fits (client, (r, k))
IsEvent (events.Judge r k) = judge_event.Fits (r, k)
IsEvent (events.Inject from to payload) = inject_event.Fits (from, (to, payload))

abbrev pub event_kinds : List (Kind EventLine)
event_kinds =
    record { word = codes "say"; read = read_say_event }
    ∷ record { word = codes "open"; read = read_open_event }
    ∷ record { word = codes "submit"; read = read_submit_event }
    ∷ record { word = codes "deliver"; read = read_deliver_event }
    ∷ record { word = codes "lose"; read = read_lose_event }
    ∷ record { word = codes "tick"; read = read_tick_event }
    ∷ record { word = codes "close"; read = read_close_event }
    ∷ record { word = codes "abandon"; read = read_abandon_event }
    ∷ record { word = codes "leave"; read = read_leave_event }
    ∷ record { word = codes "accuse"; read = read_accuse_event }
    ∷ record { word = codes "judge"; read = read_judge_event }
    ∷ record { word = codes "inject"; read = read_inject_event }
    ∷ []

-- the event line of this word and the fields behind it
unfoldable pub read_event : List ℕ → List (List ℕ) → Option EventLine
read_event word fields = of_kind event_kinds no_other word fields

-- ---- all lines

abbrev pub line_fields : ReportLine → List (List ℕ)
line_fields (lines.Report version) = codes "dissent-report" ∷ report_header.spell version
line_fields (lines.Group clients servers ots client_lms server_lms) = codes "group" ∷ group_header.spell (clients, (servers, (ots, (client_lms, server_lms))))
line_fields (lines.ClientKey client key) = codes "ckey" ∷ client_key_header.spell (client, key)
line_fields (lines.ServerKey server key) = codes "skey" ∷ server_key_header.spell (server, key)
line_fields (lines.SlotKey slot key) = codes "slot" ∷ slot_key_header.spell (slot, key)
line_fields (lines.Seal client server seal) = codes "seal" ∷ seal_header.spell (client, (server, seal))
line_fields (lines.Corrupt members) = codes "corrupt" ∷ corrupt_header.spell members
line_fields (lines.Event e) = codes "@" ∷ event_fields e
line_fields (lines.Race server workers) = codes "@" ∷ codes "race" ∷ race_mark.spell (server, workers)
line_fields (lines.Board server read) = codes "@" ∷ codes "board" ∷ board_mark.spell (server, read)
line_fields (lines.Outcome o) = outcome_fields o
line_fields (lines.Audit signed digests honest) = codes "audit" ∷ audit_header.spell (signed, (digests, honest))
line_fields lines.End = codes "end" ∷ end_header.spell tt

-- its numbers are in their ranges, and corrupt members stand in order
abbrev pub IsLine : ReportLine → Type 0
IsLine (lines.Report version) = report_header.Fits version
IsLine (lines.Group clients servers ots client_lms server_lms) = group_header.Fits (clients, (servers, (ots, (client_lms, server_lms))))
IsLine (lines.ClientKey client key) = client_key_header.Fits (client, key)
IsLine (lines.ServerKey server key) = server_key_header.Fits (server, key)
IsLine (lines.SlotKey slot key) = slot_key_header.Fits (slot, key)
IsLine (lines.Seal client server seal) = seal_header.Fits (client, (server, seal))
IsLine (lines.Corrupt members) = corrupt_header.Fits members
IsLine (lines.Event e) = IsEvent e
IsLine (lines.Race server workers) = race_mark.Fits (server, workers)
IsLine (lines.Board server read) = board_mark.Fits (server, read)
IsLine (lines.Outcome o) = IsOutcome o
IsLine (lines.Audit signed digests honest) = audit_header.Fits (signed, (digests, honest))
IsLine lines.End = end_header.Fits tt

-- its text, with the line's end
abbrev pub line_text : ReportLine → List ℕ
line_text l = spaced (line_fields l) ++ 10 ∷ []

abbrev pub mark_kinds : List (Kind ReportLine)
mark_kinds =
    record { word = codes "race"; read = read_race_mark }
    ∷ record { word = codes "board"; read = read_board_mark }
    ∷ []

-- a mark or an event line, of this word behind `@`
unfoldable pub read_marked : List ℕ → List (List ℕ) → Option ReportLine
read_marked word fields = of_kind mark_kinds (λ w fs. made lines.Event (read_event w fs)) word fields

-- the same of all fields behind `@`
abbrev pub read_behind_mark : List (List ℕ) → Option ReportLine
read_behind_mark [] = None
read_behind_mark (word ∷ fields) = read_marked word fields

abbrev pub header_kinds : List (Kind ReportLine)
header_kinds =
    record { word = codes "dissent-report"; read = read_report_header }
    ∷ record { word = codes "group"; read = read_group_header }
    ∷ record { word = codes "ckey"; read = read_client_key_header }
    ∷ record { word = codes "skey"; read = read_server_key_header }
    ∷ record { word = codes "slot"; read = read_slot_key_header }
    ∷ record { word = codes "seal"; read = read_seal_header }
    ∷ record { word = codes "corrupt"; read = read_corrupt_header }
    ∷ record { word = codes "audit"; read = read_audit_header }
    ∷ record { word = codes "end"; read = read_end_header }
    ∷ []

-- another line, of this word
unfoldable pub read_unmarked : List ℕ → List (List ℕ) → Option ReportLine
read_unmarked word fields = of_kind header_kinds (λ w fs. made lines.Outcome (read_outcome w fs)) word fields

-- the line of these fields
abbrev pub read_fields : List (List ℕ) → Option ReportLine
read_fields [] = None
read_fields (word ∷ fields) = if bytes_eq word (codes "@") then read_behind_mark fields else read_unmarked word fields

-- what stands before the last byte, where that is a line's end
unfoldable pub before_end : List ℕ → Option (List ℕ)
before_end bytes =
    if nat_lt 0 (length bytes) && (slice_index bytes (length bytes - 1) == 10) then Some (take (length bytes - 1) bytes) else None

-- the line that bytes spell
abbrev pub line_of : List ℕ → Option ReportLine
line_of bytes = before_end bytes >>= λ line. read_fields (fields_in line)
