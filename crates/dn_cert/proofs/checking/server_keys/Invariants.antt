use Rattle.std.proofs.Common.{◌≡◌, take}
use Rattle.dn_cert.proofs.checking.server_keys.Given as goal

abbrev pub invariant-loop-j : goal.invariant-loop-j
invariant-loop-j l = l.keys.items ≡ take l.j l.roster.servers
