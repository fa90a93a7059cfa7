-- How a report is judged where its reading stops.
use Rattle.std.proofs.Common.{◌≡◌, ℕ, Bool, false, List, length, sym, subst, refl}
use Rattle.std.specs.Prelude.{◌⊎◌}
use Rattle.dn_report.specs.declared.line.ReportLine.{ReportLine}
use Rattle.dn_verify.specs.declared.stop.Stop.{Stop}
use Rattle.dn_verify.specs.declared.stop.Stop.TheVariants.{Broken, NoMemory}
use Rattle.dn_verify.specs.Acceptance.{IsAtEnd, IsRefusedAt, IsReport}
use Rattle.dn_verify.specs.Acceptance.IsRefusedAt.{in_header, behind_header, at_end}
use Rattle.dn_verify.specs.HeaderParts.{StopsInHeader}
use Rattle.dn_verify.specs.Known.{Known}
use Rattle.dn_verify.specs.Payloads.{Report}
use Rattle.dn_verify.specs.Reading.{IsRead}
use Rattle.dn_verify.specs.Steps.{Passes, StopsSo}
use Rattle.dn_verify.specs.Verify.{StopsText}

module _ (text : List ℕ) (ls : List ReportLine) (whole : Bool) where
  pub header_stops : (stop : Stop) → IsRead text ls whole → StopsInHeader ls stop → StopsText text stop
  header_stops NoMemory read stops = tt
  header_stops (Broken at rule) read stops = subst (IsRefusedAt text at) (sym stops.0) (in_header ls whole read stops.1)

  module _ (report : Report) (first : ℕ) (is : IsReport text ls whole report first) where
    pub steps_stop : (stop : Stop) → StopsSo report ls first stop → StopsText text stop
    steps_stop NoMemory stops = tt
    steps_stop (Broken at rule) stops = behind_header ls whole report first rule is stops

    pub end_stops : (stop : Stop) (known : Known) → Passes report ls first (length ls) known → stop ≡ Broken (length ls) 1
        → (whole ≡ false) ⊎ (IsAtEnd ls first → ⊥) → StopsText text stop
    end_stops stop known passes at why = subst (StopsText text) (sym at) (at_end ls whole report first known is passes refl why)
