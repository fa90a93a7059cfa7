use Rattle.std.proofs.Common.{◌≤◌, ◌<◌, ◌+◌, length}
use Rattle.dn_script.specs.Script.{parts_of}
use Rattle.dn_notary.specs.declared.verdict.Verdict.{Verdict}
use Rattle.dn_notary.specs.Notarized.{Judges}
use Rattle.dn_notary.proofs.judging.judge_entries.Given as goal

abbrev pub invariant-loop-part : goal.invariant-loop-part
invariant-loop-part l = record {
  goes : (v : Verdict) → Judges l.key (parts_of l.rest) l.line l.count v → Judges l.key (parts_of l.text) 3 0 v;
  line : l.line + length l.rest ≤ length l.text + 3;
  count : l.count < l.line;
}

abbrev pub decreases-loop-part : goal.decreases-loop-part
decreases-loop-part l = length l.rest
