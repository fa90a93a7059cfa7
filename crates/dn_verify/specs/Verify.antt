-- What `verify` makes of its input: it judges by the rules V1 to V8, and tells the first line that breaks one.
use Rattle.std.specs.Prelude.{◌≡◌, ℕ, ◌+◌, min, List, ◌++◌, All, codes}
use Rattle.std.specs.Fmt.{decimal}
use Rattle.std.specs.List.{flat_map}
use Rattle.dn_report.specs.declared.line.ReportLine.{ReportLine}
use Rattle.dn_report.specs.Lines.{IsLine, line_text}
use Rattle.dn_wire.specs.declared.limits.TheConstants.{MAX_REPORT_BYTES}
use Rattle.dn_io.specs.declared.rule.Rule.TheVariants.{V}
use Rattle.dn_io.specs.declared.status.Status.{Status}
use Rattle.dn_io.specs.declared.status.Status.TheVariants as status
use Rattle.std.specs.declared.option.Option.{Option}
use Rattle.dn_io.specs.Task.{Task, Outside}
use Rattle.dn_verify.specs.Acceptance.{Keeps, IsRefusedAt}
use Rattle.dn_verify.specs.declared.stop.Stop.{Stop}
use Rattle.dn_verify.specs.declared.stop.Stop.TheVariants.{Broken, NoMemory}

-- a line, counted from 1, and the rule by which it is refused
abbrev pub NamesARule : List ℕ → Status → Type 0
NamesARule text (status.NotAccepted line rule) =
    (at : ℕ) × (number : ℕ) × (line ≡ min (at + 1) 18446744073709551615) × (rule ≡ V number) × IsRefusedAt text at number
NamesARule text s = ⊥

-- the line that tells the counts of an accepted report
abbrev pub accepted_text : ℕ → ℕ → List ℕ
accepted_text rounds verdicts = codes "accepted " ++ decimal rounds ++ codes " rounds " ++ decimal verdicts ++ codes " verdicts\n"

-- the text is the spelling of lines of a report, each with its line feed
pub record IsReportText (text : List ℕ) : Type 0 where
  pub lines : List ReportLine
  pub fit : All IsLine lines
  pub spelled : text ≡ flat_map line_text lines

-- the text is that of a report, no line of which breaks a rule, and some counts are told of it
abbrev pub TellsCounts : List ℕ → List ℕ → Type 0
TellsCounts text due = IsReportText text × Keeps text × (rounds : ℕ) × (verdicts : ℕ) × (due ≡ accepted_text rounds verdicts)

abbrev pub verify_task : Task
verify_task = record { limit = MAX_REPORT_BYTES; Refuses = NamesARule; Due = TellsCounts }

-- the input's and the output's side of the outside at one moment
abbrev pub outside : Option (List ℕ) → Option (List ℕ) → ℕ → ℕ → Outside
outside left held read_faults write_faults =
    record { left = left; held = held; read_faults = read_faults; write_faults = write_faults }

-- how a report that isn't accepted, or isn't judged, is told: by its line, counted from 1
abbrev pub refusal_of : Stop → Status
refusal_of (Broken at rule) = status.NotAccepted (min (at + 1) 18446744073709551615) (V rule)
refusal_of NoMemory = status.NoMemory

-- what is said of a report that stops at a line
abbrev pub StopsText : List ℕ → Stop → Type 0
StopsText text (Broken at rule) = IsRefusedAt text at rule
StopsText text NoMemory = Unit {0}
