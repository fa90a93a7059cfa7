-- Lines that keep the rules, one after the other.
use Rattle.std.proofs.Common.{◌≡◌, ◌≤◌, ◌<◌, ℕ, List, length, sym, subst}
use Rattle.std.specs.Prelude.{Err}
use Rattle.dn_report.specs.declared.line.ReportLine.{ReportLine}
use Rattle.dn_verify.specs.declared.stop.Stop.{Stop}
use Rattle.dn_verify.specs.declared.stop.Stop.TheVariants.{Broken, NoMemory}
use Rattle.dn_verify.specs.Course.{CourseView}
use Rattle.dn_verify.specs.Judged.{IsStepped}
use Rattle.dn_verify.specs.Known.{Known}
use Rattle.dn_verify.specs.Payloads.{Report}
use Rattle.dn_verify.specs.Breaks.{IsRefusedBy}
use Rattle.dn_verify.specs.Steps.{IsFirstRefused, Passes, StopsSo, behind_at, course_before, line_at}

module _ (report : Report) (ls : List ReportLine) (first at : ℕ) (f : Known) where
  pub stops_so : (stop : Stop) (c : CourseView) → c ≡ course_before ls first at → first ≤ at → at < length ls → Passes report ls first at f
      → IsStepped report c f (line_at ls at) (behind_at ls at) at (Err stop) → StopsSo report ls first stop
  stops_so NoMemory c same above within passes stepped = tt
  stops_so (Broken place rule) c same above within passes stepped =
      subst (λ (q : ℕ). IsFirstRefused report ls first q rule) (sym stepped.0)
      (record {
        behind = above;
        there = within;
        known = f;
        passes = passes;
        refused = subst (λ (x : CourseView). IsRefusedBy report x f (line_at ls at) (behind_at ls at) rule) same stepped.1;
      })
