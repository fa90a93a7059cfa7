use Rattle.std.proofs.Common.{◌+◌, ◌-◌, length}
use Rattle.dn_io.proofs.WholeLemmas.{HasRead}
use Rattle.dn_io.proofs.reading.read_whole.Given as goal

abbrev pub invariant-loop-bytes : goal.invariant-loop-bytes
invariant-loop-bytes g l =
    HasRead (g.S.Source.left l.fn.src) (g.S.Source.left l.src) (g.S.Source.faults l.fn.src) (g.S.Source.faults l.src) l.limit l.bytes.items

abbrev pub decreases-loop-bytes : goal.decreases-loop-bytes
decreases-loop-bytes g l = l.limit + 1 - length l.bytes.items
