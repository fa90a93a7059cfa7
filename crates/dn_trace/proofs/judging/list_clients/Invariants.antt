use Rattle.std.proofs.Common.{◌≡◌, ◌++◌, take}
use Rattle.dn_trace.specs.Tables.{members_from, a_client}
use Rattle.dn_trace.proofs.judging.list_clients.Given as goal

abbrev pub invariant-loop-i : goal.invariant-loop-i
invariant-loop-i l = l.list.items ≡ l.initial.list.items ++ members_from a_client 0 (take l.i l.flags)
