use Rattle.std.proofs.Common.{◌≡◌, drop}
use Rattle.dn_run_report.specs.Report.{sent_payload}
use Rattle.dn_run_report.proofs.step_lines.sent_payload.Given as goal

abbrev pub invariant-loop-outcome : goal.invariant-loop-outcome
invariant-loop-outcome l = sent_payload l.outcomes ≡ sent_payload (drop l.outcome-index l.outcomes)
