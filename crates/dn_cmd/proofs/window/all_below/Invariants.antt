use Rattle.std.proofs.Common.{◌≡◌}
use Rattle.dn_bits.specs.Bits.{below}
use Rattle.dn_cmd.proofs.window.all_below.Given as goal

abbrev pub invariant-loop-client : goal.invariant-loop-client
invariant-loop-client l = l.all.items ≡ below l.client
