use Rattle.std.proofs.Common.{◌≡◌, ◌+◌, ◌-◌, ◌≤◌, ◌++◌, length, drop}
use Rattle.dn_cert.proofs.Merging.{merged}
use Rattle.dn_cert.proofs.trimming.list_with.Given as goal

abbrev pub invariant-loop-i : goal.invariant-loop-i
invariant-loop-i l = record {
  rows : l.i ≤ length l.listed;
  entered : l.k ≤ length l.entries;
  rest : l.all.items ++ merged l.server.0 (drop l.i l.listed) (drop l.k l.entries) ≡ merged l.server.0 l.listed l.entries;
}

abbrev pub decreases-loop-i : goal.decreases-loop-i
decreases-loop-i l = (length l.listed - l.i) + (length l.entries - l.k)
