-- The lines of a report behind its header, one after the other.
use Rattle.std.specs.Prelude.{◌≡◌, ◌+◌, ◌-◌, ◌<◌, ◌≤◌, ℕ, zero, suc, List, drop, length, slice_index_or, Option, Some, None}
use Rattle.std.specs.List.{filter_map}
use Rattle.dn_report.specs.declared.line.ReportLine.{ReportLine}
use Rattle.dn_report.specs.declared.line.ReportLine.TheVariants as lines
use Rattle.dn_report.specs.declared.outcome.Outcome.TheVariants as outcomes
use Rattle.dn_verify.specs.declared.stop.Stop.{Stop}
use Rattle.dn_verify.specs.declared.stop.Stop.TheVariants.{Broken, NoMemory}
use Rattle.dn_verify.specs.Course.{CourseView, no_course, after}
use Rattle.dn_verify.specs.Payloads.{Report}
use Rattle.dn_verify.specs.Known.{Known, GoesOn, no_known}
use Rattle.dn_verify.specs.Breaks.{BreaksNone, IsRefusedBy}

-- the bytes that a `post` line posts
abbrev pub posted_bytes : ReportLine → Option (List ℕ)
posted_bytes (lines.Outcome (outcomes.Post payload by bytes)) = Some bytes
posted_bytes _ = None

-- the bytes of the payloads of a report, in the order of their `post` lines
abbrev pub posts_of : List ReportLine → List (List ℕ)
posts_of ls = filter_map posted_bytes ls

-- the line at a place, counted from 0
abbrev pub line_at : List ReportLine → ℕ → ReportLine
line_at ls k = slice_index_or ls k lines.End

-- the lines behind a place
abbrev pub behind_at : List ReportLine → ℕ → List ReportLine
behind_at ls k = drop (k + 1) ls

-- the course behind so many lines from a place on
unfoldable pub course_behind : List ReportLine → ℕ → ℕ → CourseView
course_behind ls first zero = no_course
course_behind ls first (suc n) = after (course_behind ls first n) (line_at ls (first + n)) (behind_at ls (first + n))

-- the course before the line at a place, where the header ends before the place `first`
abbrev pub course_before : List ReportLine → ℕ → ℕ → CourseView
course_before ls first k = course_behind ls first (k - first)

-- the line breaks no rule, and this is known behind it
pub record IsPassed (report : Report) (c : CourseView) (f : Known) (l : ReportLine) (behind : List ReportLine) (g : Known) : Type 0 where
  pub keeps : BreaksNone report c f l behind
  pub goes : GoesOn report c f l behind g

-- none of n lines from a place on breaks a rule, and this is known behind them
unfoldable pub PassesTo : Report → List ReportLine → ℕ → ℕ → Known → Type 0
PassesTo report ls first zero g = g ≡ no_known (length report.roster.clients)
PassesTo report ls first (suc n) g =
    (f : Known) × PassesTo report ls first n f × IsPassed report (course_behind ls first n) f (line_at ls (first + n)) (behind_at ls (first + n)) g

-- none breaks one from the header to a place
abbrev pub Passes : Report → List ReportLine → ℕ → ℕ → Known → Type 0
Passes report ls first past g = PassesTo report ls first (past - first) g

-- this line is refused by this rule, and is the first
pub record IsFirstRefused (report : Report) (ls : List ReportLine) (first at rule : ℕ) : Type 0 where
  pub behind : first ≤ at
  pub there : at < length ls
  pub known : Known
  pub passes : Passes report ls first at known
  pub refused : IsRefusedBy report (course_before ls first at) known (line_at ls at) (behind_at ls at) rule

abbrev pub StopsSo : Report → List ReportLine → ℕ → Stop → Type 0
StopsSo report ls first (Broken at rule) = IsFirstRefused report ls first at rule
StopsSo report ls first NoMemory = Unit {0}
