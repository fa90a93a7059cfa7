use Rattle.std.proofs.Common.{◌≡◌, take}
use Rattle.dn_cmd.specs.Demo.{count_in}
use Rattle.dn_cmd.proofs.showing.count_in.Given as goal

abbrev pub invariant-loop-step : goal.invariant-loop-step
invariant-loop-step l = l.count ≡ count_in l.counted (take l.step-index l.steps)
