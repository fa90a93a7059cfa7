use Rattle.std.proofs.Common.{◌≡◌, ℕ, length, Some}
use Rattle.std.specs.Prelude.{slice_get}
use Rattle.dn_trace.specs.declared.openings.Opening.{Opening}
use Rattle.dn_trace.specs.Evidence.{IsOpening}
use Rattle.dn_trace.proofs.challenging.openings.Given as goal

abbrev pub invariant-loop-j : goal.invariant-loop-j
invariant-loop-j l = record { size : length l.all.items ≡ l.j; each : (x : ℕ) (o : Opening) → slice_get l.all.items x ≡ Some o → IsOpening l.case x o.s.now o.shown.now o.pad.now }
