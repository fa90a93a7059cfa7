-- How a text is judged by all rules: accepted exactly where no line of it breaks one, or else refused at the first line that breaks one, by
-- the least rule that it breaks.
use Rattle.std.specs.Prelude.{◌≡◌, ◌⊎◌, ℕ, Bool, true, false, List, length}
use Rattle.std.specs.List.{AllZip}
use Rattle.dn_report.specs.declared.line.ReportLine.{ReportLine}
use Rattle.dn_verify.specs.declared.course.Ending.TheVariants.{Ended}
use Rattle.dn_verify.specs.Header.{IsFirstWrong, IsHeader}
use Rattle.dn_verify.specs.Known.{Known}
use Rattle.dn_verify.specs.Payloads.{Report, IsCarried}
use Rattle.dn_verify.specs.Reading.{IsRead}
use Rattle.dn_verify.specs.Steps.{IsFirstRefused, Passes, course_before, posts_of}

-- The text begins with these lines, whose header ends before the place `first`, and which are judged against this.
pub record IsReport (text : List ℕ) (ls : List ReportLine) (whole : Bool) (report : Report) (first : ℕ) : Type 0 where
  pub read : IsRead text ls whole
  pub header : IsHeader ls report.roster report.corrupt first
  pub payloads : report.payloads ≡ posts_of ls
  pub carried : AllZip (IsCarried report.roster) report.payloads report.carried

-- the lines end so that the report is at its end
abbrev pub IsAtEnd : List ReportLine → ℕ → Type 0
IsAtEnd ls first = (course_before ls first (length ls)).ending ≡ Ended

-- no line of the text breaks a rule
pub record Keeps (text : List ℕ) : Type 0 where
  pub ls : List ReportLine
  pub report : Report
  pub first : ℕ
  pub is : IsReport text ls true report first
  pub known : Known
  pub passes : Passes report ls first (length ls) known
  pub ends : IsAtEnd ls first

-- The line at a place, counted from 0, is the first that is refused, by this rule: in the header, or behind it, or where a line is wanted or
-- what stands there is no line.
pub data IsRefusedAt (text : List ℕ) (at : ℕ) : ℕ → Type 0 where
  in_header : (ls : List ReportLine) (whole : Bool) → IsRead text ls whole → IsFirstWrong ls at → IsRefusedAt text at 1
  behind_header : (ls : List ReportLine) (whole : Bool) (report : Report) (first rule : ℕ)
      → IsReport text ls whole report first → IsFirstRefused report ls first at rule → IsRefusedAt text at rule
  at_end : (ls : List ReportLine) (whole : Bool) (report : Report) (first : ℕ) (known : Known)
      → IsReport text ls whole report first → Passes report ls first (length ls) known → at ≡ length ls
      → (whole ≡ false) ⊎ (IsAtEnd ls first → ⊥) → IsRefusedAt text at 1
