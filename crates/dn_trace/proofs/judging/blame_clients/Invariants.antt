use Rattle.std.proofs.Common.{◌≡◌, ◌++◌, take}
use Rattle.dn_trace.specs.Tables.{blames_from, a_client}
use Rattle.dn_trace.proofs.judging.blame_clients.Given as goal

abbrev pub invariant-loop-i : goal.invariant-loop-i
invariant-loop-i l = l.blamed.items ≡ l.initial.blamed.items ++ blames_from a_client 0 (take l.i l.faults)
