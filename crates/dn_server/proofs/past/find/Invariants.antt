use Rattle.std.proofs.Common.{◌≡◌, None, take}
use Rattle.dn_server.specs.Server.{past_of}
use Rattle.dn_server.proofs.past.find.Given as goal

abbrev pub invariant-loop-past : goal.invariant-loop-past
invariant-loop-past l = past_of (take l.past-index l.pasts) l.r.0 ≡ None
