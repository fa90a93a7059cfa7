use Rattle.std.proofs.Common.{◌≡◌, ◌<◌, ℕ, None, length, get_or}
use Rattle.dn_trace.specs.Evidence.{HasOwn}
use Rattle.dn_trace.proofs.judging.own_faults.Given as goal

abbrev pub invariant-loop-j : goal.invariant-loop-j
invariant-loop-j l = record { size : length l.faults.items ≡ l.j; each : (x : ℕ) → x < l.j → HasOwn l.case x (get_or l.faults.items x None) }
