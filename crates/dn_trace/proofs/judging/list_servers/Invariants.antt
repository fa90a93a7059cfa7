use Rattle.std.proofs.Common.{◌≡◌, ◌++◌, take}
use Rattle.dn_trace.specs.Tables.{members_from, a_server}
use Rattle.dn_trace.proofs.judging.list_servers.Given as goal

abbrev pub invariant-loop-j : goal.invariant-loop-j
invariant-loop-j l = l.list.items ≡ l.initial.list.items ++ members_from a_server 0 (take l.j l.flags)
