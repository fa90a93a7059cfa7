use Rattle.std.proofs.Common.{◌≡◌, ◌-◌, take, length}
use Rattle.dn_crew.specs.Workers.{ArePaired}
use Rattle.dn_crew.proofs.meeting.pair_up.Given as goal

abbrev pub invariant-loop-k : goal.invariant-loop-k
invariant-loop-k l = record {
  count : l.count ≡ length l.fn.cores.items;
  passes : l.passes.items ≡ take (l.count - l.k) l.fn.passes.items;
  cores : l.cores.items ≡ take (l.count - l.k) l.fn.cores.items;
  long : length l.workers.items ≡ l.k;
  paired : ArePaired l.fn.passes.items l.fn.cores.items l.k l.workers.items;
}
