use Rattle.std.proofs.Common.{◌≡◌, take}
use Rattle.dn_crew.specs.Live.{Makes}
use Rattle.dn_crew.proofs.delivering.work.Given as goal

abbrev pub invariant-loop-bytes : goal.invariant-loop-bytes
invariant-loop-bytes g l = record {
  seat : l.core.seat ≡ l.fn.core.seat;
  made : Makes l.roster l.servers l.fn.core (take l.bytes-index l.payloads) l.made.items l.core;
}
