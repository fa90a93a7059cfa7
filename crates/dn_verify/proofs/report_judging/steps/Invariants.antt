use Rattle.std.proofs.Common.{◌≡◌}
use Rattle.std.specs.Prelude.{All}
use Rattle.dn_seal.specs.Said.{IsUnder}
use Rattle.dn_verify.specs.Kept.{course_of, known_of}
use Rattle.dn_verify.specs.Payloads.{AreContents, Report}
use Rattle.dn_verify.specs.Steps.{Passes, course_before}
use Rattle.dn_verify.proofs.report_judging.steps.Given as goal

abbrev pub invariant-loop-at : goal.invariant-loop-at
invariant-loop-at l = record {
  heard : All (IsUnder l.roster) l.heard.items;
  goes : course_of l.course ≡ course_before l.lines l.first l.at;
  passed : (report : Report) → AreContents report l.contents → report.roster ≡ l.roster → report.corrupt ≡ l.corrupt
      → Passes report l.lines l.first l.at (known_of l.fold l.heard.items);
}
