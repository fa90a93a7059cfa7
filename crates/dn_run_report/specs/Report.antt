-- The text of a report: its lines in front, what is shown of a run, and its last lines.
use Rattle.std.specs.Prelude.{ℕ, ◌+◌, ◌*◌, Bool, true, false, if◌then◌else◌, List, [], ◌∷◌, ◌++◌, length, map, filter, Option, Some, None, unwrap_or, slice_get}
use Rattle.std.specs.List.{flat_map, range_with_len}
use Rattle.dn_wire.specs.declared.ids.ClientId.{ClientId}
use Rattle.dn_wire.specs.declared.ids.ServerId.{ServerId}
use Rattle.dn_wire.specs.declared.ids.SlotId.{SlotId}
use Rattle.dn_wire.specs.declared.ids.Member.{Member}
use Rattle.dn_wire.specs.declared.ids.Member.TheVariants as members
use Rattle.dn_roster.specs.declared.group.GroupSpec.{GroupSpec}
use Rattle.dn_roster.specs.Roster.{RosterView}
use Rattle.dn_report.specs.declared.event.Event.{Event}
use Rattle.dn_report.specs.declared.event.Event.TheVariants as happens
use Rattle.dn_report.specs.declared.line.EventLine.{EventLine}
use Rattle.dn_report.specs.declared.line.EventLine.TheVariants as events
use Rattle.dn_report.specs.declared.line.ReportLine.{ReportLine}
use Rattle.dn_report.specs.declared.line.ReportLine.TheVariants as lines
use Rattle.dn_report.specs.declared.outcome.Outcome.{Outcome}
use Rattle.dn_report.specs.declared.outcome.Outcome.TheVariants as outcomes
use Rattle.dn_report.specs.Lines.{line_text}
use Rattle.dn_world.specs.declared.step.Step.{Step}
use Rattle.dn_state.specs.declared.reading.Audit.{Audit}
use Rattle.dn_run_report.specs.declared.shown.Shown.{Shown}
use Rattle.dn_run_report.specs.declared.shown.Shown.TheVariants as shown

-- ---- the lines in front

abbrev pub numbers_below : ℕ → List ℕ
numbers_below n = range_with_len 0 n

-- the bytes at a place, and none past the end
abbrev pub bytes_at : List (List ℕ) → ℕ → List ℕ
bytes_at list n = unwrap_or (slice_get list n) []

abbrev pub client_key_line : RosterView → ℕ → ReportLine
client_key_line roster i = lines.ClientKey (record { 0 = i }) (bytes_at roster.clients i)

abbrev pub server_key_line : RosterView → ℕ → ReportLine
server_key_line roster j = lines.ServerKey (record { 0 = j }) (bytes_at roster.servers j)

abbrev pub slot_key_line : RosterView → ℕ → ReportLine
slot_key_line roster s = lines.SlotKey (record { 0 = s }) (bytes_at roster.slots s)

abbrev pub seal_line : RosterView → ℕ → ℕ → ReportLine
seal_line roster i j = lines.Seal (record { 0 = i }) (record { 0 = j }) (bytes_at roster.seals (i * length roster.servers + j))

abbrev pub seal_lines_of : RosterView → ℕ → List ReportLine
seal_lines_of roster i = map (seal_line roster i) (numbers_below (length roster.servers))

abbrev pub head_lines : GroupSpec → RosterView → List Member → List ReportLine
head_lines group roster corrupt =
    lines.Report group.version ∷ lines.Group group.clients group.servers group.ots group.client_lms group.server_lms ∷ []
    ++ map (client_key_line roster) (numbers_below (length roster.clients))
    ++ map (server_key_line roster) (numbers_below (length roster.servers))
    ++ map (slot_key_line roster) (numbers_below (length roster.clients))
    ++ flat_map (seal_lines_of roster) (numbers_below (length roster.clients))
    ++ lines.Corrupt corrupt ∷ []

-- ---- what is shown of a run

-- the number of the payload that an outcome sends, or loses to a full flight
abbrev pub sent_in : Outcome → Option ℕ
sent_in (outcomes.Sent id payload to) = Some payload
sent_in (outcomes.Full payload to) = Some payload
sent_in outcome = None

-- the first of two, where there is one, else the second
abbrev pub or_else : Option ℕ → Option ℕ → Option ℕ
or_else (Some x) y = Some x
or_else None y = y

-- the number of the first payload that is sent, or lost to a full flight, among what came of an event
abbrev pub sent_payload : List Outcome → Option ℕ
sent_payload [] = None
sent_payload (outcome ∷ rest) = or_else (sent_in outcome) (sent_payload rest)

abbrev pub inject_line : Member → Member → Option ℕ → List ReportLine
inject_line from to (Some payload) = lines.Event (events.Inject from to payload) ∷ []
inject_line from to None = []

-- the line of an event that tells all of it; none for what is injected
abbrev pub whole_line : Event → Option EventLine
whole_line (happens.Say client text) = Some (events.Say client text)
whole_line (happens.OpenRound server r) = Some (events.Open server r)
whole_line (happens.Close server) = Some (events.Close server)
whole_line (happens.Abandon server) = Some (events.Abandon server)
whole_line (happens.Submit client server r) = Some (events.Submit client server r)
whole_line (happens.Deliver id) = Some (events.Deliver id)
whole_line (happens.Lose id) = Some (events.Lose id)
whole_line happens.Tick = Some events.Tick
whole_line (happens.Leave client) = Some (events.Leave client)
whole_line (happens.Accuse client r k) = Some (events.Accuse client r k)
whole_line (happens.Judge r k) = Some (events.Judge r k)
whole_line (happens.Inject from to payload) = None

-- what is injected is told by the number of its payload, which what came of it has
abbrev pub injected_lines : Event → List Outcome → List ReportLine
injected_lines (happens.Inject from to payload) came = inject_line from to (sent_payload came)
injected_lines event came = []

abbrev pub line_or : Option EventLine → List ReportLine → List ReportLine
line_or (Some line) other = lines.Event line ∷ []
line_or None other = other

-- the line of an event, of which this came
abbrev pub event_lines : Event → List Outcome → List ReportLine
event_lines event came = line_or (whole_line event) (injected_lines event came)

-- the lines of an event and of all that came of it
abbrev pub step_lines : Step → List ReportLine
step_lines step = event_lines step.event step.outcomes ++ map lines.Outcome step.outcomes

abbrev pub lines_of_step : Option Step → List ReportLine
lines_of_step (Some step) = step_lines step
lines_of_step None = []

-- the lines of what is shown: of the event with this number, or of a mark
abbrev pub shown_lines : List Step → Shown → List ReportLine
shown_lines history (shown.Event number) = lines_of_step (slice_get history number)
shown_lines history (shown.Race server workers) = lines.Race server workers ∷ []
shown_lines history (shown.Board server read) = lines.Board server read ∷ []
shown_lines history (shown.Ignored word) = lines.Outcome (outcomes.Ignored word) ∷ []

-- ---- the whole

-- the group and its roster, the corrupt members in their order, all events with what came of them, what is shown in which order, and
-- the audit's words
pub record PlayedView : Type 0 where
  pub group : GroupSpec
  pub roster : RosterView
  pub corrupt : List Member
  pub history : List Step
  pub shown : List Shown
  pub audit : Audit

abbrev pub last_lines : Audit → List ReportLine
last_lines audit = lines.Audit audit.signed audit.digests audit.honest ∷ lines.End ∷ []

abbrev pub report_lines : PlayedView → List ReportLine
report_lines p = head_lines p.group p.roster p.corrupt ++ flat_map (shown_lines p.history) p.shown ++ last_lines p.audit

abbrev pub lines_text : List ReportLine → List ℕ
lines_text list = flat_map line_text list

abbrev pub report_text : PlayedView → List ℕ
report_text p = lines_text (report_lines p)

-- the numbers of the events that are shown, in order
abbrev pub events_shown : List Shown → List ℕ
events_shown [] = []
events_shown (shown.Event number ∷ rest) = number ∷ events_shown rest
events_shown (other ∷ rest) = events_shown rest
