-- The law of report lines.
use Rattle.std.proofs.Common.{◌≡◌, ℕ, List, [], ◌∷◌, ◌++◌, suc, ◌+◌, ◌-◌, ◌<◌, ◌≤◌, true, length, take, drop, slice_index, drop-cons, length-append, arith, Some, inl, inr, refl, sym, ap, subst, ◌∙◌}
use Rattle.std.specs.Prelude.{codes, nat_lt, ◌&&◌, ◌==◌}
use Rattle.std.specs.List.{AllByRecursion}
use Rattle.std.specs.Str.{bytes_eq}
use Rattle.std.proofs.lemmas.Bool.{cases_Bool, cond-true, cond-false, and_parts, ltb-true, lt-ltb, eqb-true}
use Rattle.std.proofs.lemmas.List.{take_at, take-append-drop}
use Rattle.std.proofs.Math.ListN.{drop_of_length-le}
use Rattle.std.proofs.Math.Seq.{get_or-append_seam}
use Rattle.std.proofs.lemmas.Option.{none-some, cond_some}
use Rattle.std.proofs.lemmas.Slice.Eq.{bytes_eq-Decides}
use Rattle.dn_lines.specs.Field.{made}
use Rattle.dn_lines.specs.Form.{spaced, fields_in, last, ◌▸◌, each}
use Rattle.dn_lines.specs.Fields.{number, long_number, bytes, client, server, slot, member}
use Rattle.dn_lines.specs.Exact.{IsExactForm, IsFree}
use Rattle.dn_lines.proofs.FormLaws.{nothing_exact, last_exact, then_exact, each_exact, only_exact, kind_found, of_kind_found, IsKind, Found, bind_some, made_some, fields_of_spaced, spaced_of_fields}
use Rattle.dn_lines.proofs.FieldLaws.{number_exact, long_number_exact, bytes_exact, server_exact, slot_exact, member_exact, free_from_test}
use Rattle.dn_report.specs.declared.outcome.Outcome.{Outcome}
use Rattle.dn_report.specs.declared.outcome.Outcome.TheVariants as outcomes
use Rattle.dn_report.specs.declared.line.EventLine.{EventLine}
use Rattle.dn_report.specs.declared.line.EventLine.TheVariants as events
use Rattle.dn_report.specs.declared.line.ReportLine.{ReportLine}
use Rattle.dn_report.specs.declared.line.ReportLine.TheVariants as lines
use Rattle.dn_report.specs.Words.{yes_word}
use Rattle.dn_report.specs.Forms.{client_number, server_number, version, in_order, race_mark, board_mark, report_header, group_header, client_key_header, server_key_header, slot_key_header, seal_header, corrupt_header, audit_header, end_header, read_race_mark, read_board_mark, read_report_header, read_group_header, read_client_key_header, read_server_key_header, read_slot_key_header, read_seal_header, read_corrupt_header, read_audit_header, read_end_header}
use Rattle.dn_report.specs.Lines.{outcome_fields, IsOutcome, read_outcome, event_fields, IsEvent, read_event, line_fields, IsLine, mark_kinds, read_marked, header_kinds, read_unmarked, read_behind_mark, read_fields, line_text, before_end, line_of}
use Rattle.dn_report.proofs.OutcomeLaws.{outcome_found, outcome_known, outcome_free}
use Rattle.dn_report.proofs.EventLaws.{event_found, event_known, event_free}
use Rattle.dn_report.proofs.WordLaws.{yes_word_exact}
use Rattle.dn_report.proofs.PartLaws.{client_number_exact, server_number_exact, version_exact}

-- these are the fields of a line that may stand
abbrev pub SpellsLine : ReportLine → List (List ℕ) → Type 0
SpellsLine l fields = (fields ≡ line_fields l) × IsLine l

-- these are its fields behind `@`
abbrev pub SpellsMarked : ReportLine → List (List ℕ) → Type 0
SpellsMarked l fields = (codes "@" ∷ fields ≡ line_fields l) × IsLine l

pub race_mark_exact : IsExactForm race_mark
race_mark_exact = then_exact server (last number) server_exact (last_exact number number_exact)

pub race_mark_found : IsKind SpellsMarked (record { word = codes "race"; read = read_race_mark })
unfolding read_race_mark
race_mark_found = kind_found race_mark (λ x. lines.Race x.0 x.1) SpellsMarked (codes "race") race_mark_exact (λ x fits. (refl, fits))

pub board_mark_exact : IsExactForm board_mark
board_mark_exact = then_exact server (last long_number) server_exact (last_exact long_number long_number_exact)

pub board_mark_found : IsKind SpellsMarked (record { word = codes "board"; read = read_board_mark })
unfolding read_board_mark
board_mark_found = kind_found board_mark (λ x. lines.Board x.0 x.1) SpellsMarked (codes "board") board_mark_exact (λ x fits. (refl, fits))

pub report_header_exact : IsExactForm report_header
report_header_exact = last_exact version version_exact

pub report_header_found : IsKind SpellsLine (record { word = codes "dissent-report"; read = read_report_header })
unfolding read_report_header
report_header_found = kind_found report_header (λ x. lines.Report x) SpellsLine (codes "dissent-report") report_header_exact (λ x fits. (refl, fits))

pub group_header_exact : IsExactForm group_header
group_header_exact = then_exact number (number ▸ number ▸ number ▸ last number) number_exact (then_exact number (number ▸ number ▸ last number) number_exact (then_exact number (number ▸ last number) number_exact (then_exact number (last number) number_exact (last_exact number number_exact))))

pub group_header_found : IsKind SpellsLine (record { word = codes "group"; read = read_group_header })
unfolding read_group_header
group_header_found = kind_found group_header (λ x. lines.Group x.0 x.1.0 x.1.1.0 x.1.1.1.0 x.1.1.1.1) SpellsLine (codes "group") group_header_exact (λ x fits. (refl, fits))

pub client_key_header_exact : IsExactForm client_key_header
client_key_header_exact = then_exact client_number (last bytes) client_number_exact (last_exact bytes bytes_exact)

pub client_key_header_found : IsKind SpellsLine (record { word = codes "ckey"; read = read_client_key_header })
unfolding read_client_key_header
client_key_header_found = kind_found client_key_header (λ x. lines.ClientKey x.0 x.1) SpellsLine (codes "ckey") client_key_header_exact (λ x fits. (refl, fits))

pub server_key_header_exact : IsExactForm server_key_header
server_key_header_exact = then_exact server_number (last bytes) server_number_exact (last_exact bytes bytes_exact)

pub server_key_header_found : IsKind SpellsLine (record { word = codes "skey"; read = read_server_key_header })
unfolding read_server_key_header
server_key_header_found = kind_found server_key_header (λ x. lines.ServerKey x.0 x.1) SpellsLine (codes "skey") server_key_header_exact (λ x fits. (refl, fits))

pub slot_key_header_exact : IsExactForm slot_key_header
slot_key_header_exact = then_exact slot (last bytes) slot_exact (last_exact bytes bytes_exact)

pub slot_key_header_found : IsKind SpellsLine (record { word = codes "slot"; read = read_slot_key_header })
unfolding read_slot_key_header
slot_key_header_found = kind_found slot_key_header (λ x. lines.SlotKey x.0 x.1) SpellsLine (codes "slot") slot_key_header_exact (λ x fits. (refl, fits))

pub seal_header_exact : IsExactForm seal_header
seal_header_exact = then_exact client_number (server_number ▸ last bytes) client_number_exact (then_exact server_number (last bytes) server_number_exact (last_exact bytes bytes_exact))

pub seal_header_found : IsKind SpellsLine (record { word = codes "seal"; read = read_seal_header })
unfolding read_seal_header
seal_header_found = kind_found seal_header (λ x. lines.Seal x.0 x.1.0 x.1.1) SpellsLine (codes "seal") seal_header_exact (λ x fits. (refl, fits))

pub corrupt_header_exact : IsExactForm corrupt_header
corrupt_header_exact = only_exact in_order (each member) (each_exact member member_exact)

pub corrupt_header_found : IsKind SpellsLine (record { word = codes "corrupt"; read = read_corrupt_header })
unfolding read_corrupt_header
corrupt_header_found = kind_found corrupt_header (λ x. lines.Corrupt x) SpellsLine (codes "corrupt") corrupt_header_exact (λ x fits. (refl, fits))

pub audit_header_exact : IsExactForm audit_header
audit_header_exact = then_exact yes_word (yes_word ▸ last yes_word) yes_word_exact (then_exact yes_word (last yes_word) yes_word_exact (last_exact yes_word yes_word_exact))

pub audit_header_found : IsKind SpellsLine (record { word = codes "audit"; read = read_audit_header })
unfolding read_audit_header
audit_header_found = kind_found audit_header (λ x. lines.Audit x.0 x.1.0 x.1.1) SpellsLine (codes "audit") audit_header_exact (λ x fits. (refl, fits))

pub end_header_exact : IsExactForm end_header
end_header_exact = nothing_exact

pub end_header_found : IsKind SpellsLine (record { word = codes "end"; read = read_end_header })
unfolding read_end_header
end_header_found = kind_found end_header (λ x. lines.End) SpellsLine (codes "end") end_header_exact (λ x fits. (refl, fits))

-- ---- all of them

event_marked : Found SpellsMarked (λ w fs. made lines.Event (read_event w fs))
event_marked word fields x h =
    let e = made_some lines.Event (read_event word fields) x h in
    let r = event_found word fields e.0 e.1 in
    subst (λ (l : ReportLine). SpellsMarked l (word ∷ fields)) e.2 (ap (λ (fs : List (List ℕ)). codes "@" ∷ fs) r.0, r.1)

marked_found : Found SpellsMarked read_marked
unfolding read_marked
marked_found = of_kind_found SpellsMarked mark_kinds (λ w fs. made lines.Event (read_event w fs)) all event_marked
  where
    all : AllByRecursion (IsKind SpellsMarked) mark_kinds
    all = (race_mark_found, (board_mark_found, tt))

outcome_line : Found SpellsLine (λ w fs. made lines.Outcome (read_outcome w fs))
outcome_line word fields x h =
    let o = made_some lines.Outcome (read_outcome word fields) x h in
    let r = outcome_found word fields o.0 o.1 in
    subst (λ (l : ReportLine). SpellsLine l (word ∷ fields)) o.2 r

unmarked_found : Found SpellsLine read_unmarked
unfolding read_unmarked
unmarked_found = of_kind_found SpellsLine header_kinds (λ w fs. made lines.Outcome (read_outcome w fs)) all outcome_line
  where
    all : AllByRecursion (IsKind SpellsLine) header_kinds
    all = (report_header_found, (group_header_found, (client_key_header_found, (server_key_header_found, (slot_key_header_found, (seal_header_found, (corrupt_header_found, (audit_header_found, (end_header_found, tt)))))))))

behind_mark_found : (fields : List (List ℕ)) (x : ReportLine) → read_behind_mark fields ≡ Some x → SpellsMarked x fields
behind_mark_found [] x h = absurd (none-some x h)
behind_mark_found (word ∷ fields) x h = marked_found word fields x h

fields_found : (fields : List (List ℕ)) (x : ReportLine) → read_fields fields ≡ Some x → SpellsLine x fields
fields_found [] x h = absurd (none-some x h)
fields_found (word ∷ fields) x h =
    elim (cases_Bool (bytes_eq word (codes "@"))) [
      | inl same ↦
          let r = behind_mark_found fields x (sym (cond-true (bytes_eq word (codes "@")) (read_behind_mark fields) (read_unmarked word fields) same) ∙ h) in
          subst (λ (w : List ℕ). SpellsLine x (w ∷ fields)) (sym ((bytes_eq-Decides word (codes "@")).0 same)) r
      | inr other ↦ unmarked_found word fields x (sym (cond-false (bytes_eq word (codes "@")) (read_behind_mark fields) (read_unmarked word fields) other) ∙ h)
    ]

outcome_line_known : (o : Outcome) → IsOutcome o → read_fields (outcome_fields o) ≡ Some (lines.Outcome o)
unfolding read_unmarked
outcome_line_known (outcomes.Post payload by bytes) fits = ap (made lines.Outcome) (outcome_known (outcomes.Post payload by bytes) fits)
outcome_line_known (outcomes.Sent id payload to) fits = ap (made lines.Outcome) (outcome_known (outcomes.Sent id payload to) fits)
outcome_line_known (outcomes.Full payload to) fits = ap (made lines.Outcome) (outcome_known (outcomes.Full payload to) fits)
outcome_line_known (outcomes.Opened server r prev) fits = ap (made lines.Outcome) (outcome_known (outcomes.Opened server r prev) fits)
outcome_line_known (outcomes.Closed server r count) fits = ap (made lines.Outcome) (outcome_known (outcomes.Closed server r count) fits)
outcome_line_known (outcomes.Abandoned server r) fits = ap (made lines.Outcome) (outcome_known (outcomes.Abandoned server r) fits)
outcome_line_known (outcomes.Told client server r told) fits = ap (made lines.Outcome) (outcome_known (outcomes.Told client server r told) fits)
outcome_line_known (outcomes.Spoiled server r by reason) fits = ap (made lines.Outcome) (outcome_known (outcomes.Spoiled server r by reason) fits)
outcome_line_known (outcomes.Certified server r) fits = ap (made lines.Outcome) (outcome_known (outcomes.Certified server r) fits)
outcome_line_known (outcomes.Held member r) fits = ap (made lines.Outcome) (outcome_known (outcomes.Held member r) fits)
outcome_line_known (outcomes.Listed r pairs) fits = ap (made lines.Outcome) (outcome_known (outcomes.Listed r pairs) fits)
outcome_line_known (outcomes.Out r bytes) fits = ap (made lines.Outcome) (outcome_known (outcomes.Out r bytes) fits)
outcome_line_known (outcomes.Thin r count last) fits = ap (made lines.Outcome) (outcome_known (outcomes.Thin r count last) fits)
outcome_line_known (outcomes.Message r slot text) fits = ap (made lines.Outcome) (outcome_known (outcomes.Message r slot text) fits)
outcome_line_known (outcomes.Garbled r slot) fits = ap (made lines.Outcome) (outcome_known (outcomes.Garbled r slot) fits)
outcome_line_known (outcomes.Ignored word) fits = ap (made lines.Outcome) (outcome_known (outcomes.Ignored word) fits)
outcome_line_known outcomes.Early fits = ap (made lines.Outcome) (outcome_known outcomes.Early fits)
outcome_line_known outcomes.Taken fits = ap (made lines.Outcome) (outcome_known outcomes.Taken fits)
outcome_line_known outcomes.Noted fits = ap (made lines.Outcome) (outcome_known outcomes.Noted fits)
outcome_line_known outcomes.Kept fits = ap (made lines.Outcome) (outcome_known outcomes.Kept fits)
outcome_line_known (outcomes.Dropped count) fits = ap (made lines.Outcome) (outcome_known (outcomes.Dropped count) fits)
outcome_line_known (outcomes.Unopened word) fits = ap (made lines.Outcome) (outcome_known (outcomes.Unopened word) fits)
outcome_line_known (outcomes.Blame member reason) fits = ap (made lines.Outcome) (outcome_known (outcomes.Blame member reason) fits)
outcome_line_known (outcomes.Silent member) fits = ap (made lines.Outcome) (outcome_known (outcomes.Silent member) fits)

event_line_known : (e : EventLine) → IsEvent e → read_behind_mark (event_fields e) ≡ Some (lines.Event e)
unfolding read_marked
event_line_known (events.Say client text) fits = ap (made lines.Event) (event_known (events.Say client text) fits)
event_line_known (events.Open server r) fits = ap (made lines.Event) (event_known (events.Open server r) fits)
event_line_known (events.Submit client server r) fits = ap (made lines.Event) (event_known (events.Submit client server r) fits)
event_line_known (events.Deliver id) fits = ap (made lines.Event) (event_known (events.Deliver id) fits)
event_line_known (events.Lose id) fits = ap (made lines.Event) (event_known (events.Lose id) fits)
event_line_known events.Tick fits = ap (made lines.Event) (event_known events.Tick fits)
event_line_known (events.Close server) fits = ap (made lines.Event) (event_known (events.Close server) fits)
event_line_known (events.Abandon server) fits = ap (made lines.Event) (event_known (events.Abandon server) fits)
event_line_known (events.Leave client) fits = ap (made lines.Event) (event_known (events.Leave client) fits)
event_line_known (events.Accuse client r k) fits = ap (made lines.Event) (event_known (events.Accuse client r k) fits)
event_line_known (events.Judge r k) fits = ap (made lines.Event) (event_known (events.Judge r k) fits)
event_line_known (events.Inject from to payload) fits = ap (made lines.Event) (event_known (events.Inject from to payload) fits)

fields_known : (l : ReportLine) → IsLine l → read_fields (line_fields l) ≡ Some l
unfolding read_marked read_unmarked read_race_mark read_board_mark read_report_header read_group_header read_client_key_header read_server_key_header read_slot_key_header read_seal_header read_corrupt_header read_audit_header read_end_header
fields_known (lines.Report version) fits = rw (report_header_exact.knows version fits) refl
fields_known (lines.Group clients servers ots client_lms server_lms) fits = rw (group_header_exact.knows (clients, (servers, (ots, (client_lms, server_lms)))) fits) refl
fields_known (lines.ClientKey client key) fits = rw (client_key_header_exact.knows (client, key) fits) refl
fields_known (lines.ServerKey server key) fits = rw (server_key_header_exact.knows (server, key) fits) refl
fields_known (lines.SlotKey slot key) fits = rw (slot_key_header_exact.knows (slot, key) fits) refl
fields_known (lines.Seal client server seal) fits = rw (seal_header_exact.knows (client, (server, seal)) fits) refl
fields_known (lines.Corrupt members) fits = rw (corrupt_header_exact.knows members fits) refl
fields_known (lines.Event e) fits = event_line_known e fits
fields_known (lines.Race server workers) fits = rw (race_mark_exact.knows (server, workers) fits) refl
fields_known (lines.Board server read) fits = rw (board_mark_exact.knows (server, read) fits) refl
fields_known (lines.Outcome o) fits = outcome_line_known o fits
fields_known (lines.Audit signed digests honest) fits = rw (audit_header_exact.knows (signed, (digests, honest)) fits) refl
fields_known lines.End fits = refl

fields_free : (l : ReportLine) → IsLine l → AllByRecursion (IsFree 32) (line_fields l)
fields_free (lines.Report version) fits = (free_from_test 32 (codes "dissent-report") refl, report_header_exact.free version fits)
fields_free (lines.Group clients servers ots client_lms server_lms) fits = (free_from_test 32 (codes "group") refl, group_header_exact.free (clients, (servers, (ots, (client_lms, server_lms)))) fits)
fields_free (lines.ClientKey client key) fits = (free_from_test 32 (codes "ckey") refl, client_key_header_exact.free (client, key) fits)
fields_free (lines.ServerKey server key) fits = (free_from_test 32 (codes "skey") refl, server_key_header_exact.free (server, key) fits)
fields_free (lines.SlotKey slot key) fits = (free_from_test 32 (codes "slot") refl, slot_key_header_exact.free (slot, key) fits)
fields_free (lines.Seal client server seal) fits = (free_from_test 32 (codes "seal") refl, seal_header_exact.free (client, (server, seal)) fits)
fields_free (lines.Corrupt members) fits = (free_from_test 32 (codes "corrupt") refl, corrupt_header_exact.free members fits)
fields_free (lines.Event e) fits = (free_from_test 32 (codes "@") refl, event_free e fits)
fields_free (lines.Race server workers) fits = (free_from_test 32 (codes "@") refl, (free_from_test 32 (codes "race") refl, race_mark_exact.free (server, workers) fits))
fields_free (lines.Board server read) fits = (free_from_test 32 (codes "@") refl, (free_from_test 32 (codes "board") refl, board_mark_exact.free (server, read) fits))
fields_free (lines.Outcome o) fits = outcome_free o fits
fields_free (lines.Audit signed digests honest) fits = (free_from_test 32 (codes "audit") refl, audit_header_exact.free (signed, (digests, honest)) fits)
fields_free lines.End fits = (free_from_test 32 (codes "end") refl, end_header_exact.free tt fits)

-- ---- the text of a line

ended_found : (bytes line : List ℕ) → before_end bytes ≡ Some line → bytes ≡ line ++ 10 ∷ []
unfolding before_end
ended_found bytes line h =
    let n : ℕ = length bytes - 1 in
    let c = cond_some (nat_lt 0 (length bytes) && (slice_index bytes n == 10)) (take n bytes) line h in
    let parts = and_parts (nat_lt 0 (length bytes)) (slice_index bytes n == 10) c.0 in
    let some : 0 < length bytes = ltb-true 0 (length bytes) parts.0 in
    let last : slice_index bytes n ≡ 10 = eqb-true (slice_index bytes n) 10 parts.1 in
    let over : length bytes ≤ suc n = omega arith in
    let end : drop (suc n) bytes ≡ [] = drop_of_length-le bytes over in
    let tail : drop n bytes ≡ 10 ∷ [] = drop-cons bytes n 0 (omega arith) ∙ rw (last, end) refl in
    sym (take-append-drop n bytes) ∙ (ap (λ (t : List ℕ). take n bytes ++ t) tail ∙ ap (λ (t : List ℕ). t ++ 10 ∷ []) c.1)

ended_known : (line : List ℕ) → before_end (line ++ 10 ∷ []) ≡ Some line
unfolding before_end
ended_known line =
    let long : length (line ++ 10 ∷ []) ≡ length line + 1 = length-append line (10 ∷ []) in
    let n : length (line ++ 10 ∷ []) - 1 ≡ length line = omega (arith, long) in
    let some : nat_lt 0 (length (line ++ 10 ∷ [])) ≡ true = lt-ltb 0 (length (line ++ 10 ∷ [])) (omega (arith, long)) in
    let last : slice_index (line ++ 10 ∷ []) (length line) ≡ 10 = get_or-append_seam line 10 [] 0 in
    rw (n, some, last, take_at line (10 ∷ []) (length line) refl) refl

pub line_found : (bytes : List ℕ) (l : ReportLine) → line_of bytes ≡ Some l → IsLine l × (bytes ≡ line_text l)
line_found bytes l h =
    let a = bind_some (before_end bytes) (λ line. read_fields (fields_in line)) l h in
    let r = fields_found (fields_in a.0) l a.2 in
    (r.1, ended_found bytes a.0 a.1 ∙ ap (λ (t : List ℕ). t ++ 10 ∷ []) (sym (spaced_of_fields a.0) ∙ ap spaced r.0))

again : (fields : List (List ℕ)) (l : ReportLine) → AllByRecursion (IsFree 32) fields → read_fields fields ≡ Some l → read_fields (fields_in (spaced fields)) ≡ Some l
again [] l free h = absurd (none-some l h)
again (first ∷ fields) l free h = subst (λ (fs : List (List ℕ)). read_fields fs ≡ Some l) (sym (fields_of_spaced first fields free)) h

pub line_known : (bytes : List ℕ) (l : ReportLine) → IsLine l → bytes ≡ line_text l → line_of bytes ≡ Some l
line_known bytes l fits e =
    rw (e, ended_known (spaced (line_fields l))) (again (line_fields l) l (fields_free l fits) (fields_known l fits))
