use Rattle.std.proofs.Common.{◌≡◌, ◌-◌}
use Rattle.dn_ots.specs.Parameters.{width, last_step}
use Rattle.dn_ots.specs.Digits.{coef, sum_below}
use Rattle.dn_ots.proofs.digits.with_checksum.Given as goal

abbrev pub invariant-loop-i : goal.invariant-loop-i
invariant-loop-i l = l.sum ≡ sum_below (λ i. last_step l.params.code - coef l.hash i (width l.params.code)) l.i
