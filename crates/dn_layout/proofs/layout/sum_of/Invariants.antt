use Rattle.std.proofs.Common.{◌≡◌, ◌*◌, ◌≤◌, take}
use Rattle.std.specs.Prelude.{sum}
use Rattle.dn_layout.proofs.layout.sum_of.Given as goal

abbrev pub invariant-loop-len : goal.invariant-loop-len
invariant-loop-len l = (l.total ≡ sum (take l.len-index l.lengths)) × (l.total ≤ 65535 * l.len-index)
