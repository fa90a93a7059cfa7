use Rattle.std.proofs.Common.{◌≡◌, take, map}
use Rattle.dn_crew.specs.Live.{server_of}
use Rattle.dn_crew.proofs.meeting.servers_of.Given as goal

abbrev pub invariant-loop-core : goal.invariant-loop-core
invariant-loop-core l = l.servers.items ≡ map server_of (take l.core-index l.cores)
