use Rattle.std.proofs.Common.{◌≡◌, ◌++◌, take}
use Rattle.dn_trace.specs.Tables.{blames_from, a_server}
use Rattle.dn_trace.proofs.judging.blame_servers.Given as goal

abbrev pub invariant-loop-j : goal.invariant-loop-j
invariant-loop-j l = l.blamed.items ≡ l.initial.blamed.items ++ blames_from a_server 0 (take l.j l.faults)
