use Rattle.std.proofs.Common.{◌≡◌, take}
use Rattle.dn_server.proofs.past.copies.Given as goal

abbrev pub invariant-loop-past : goal.invariant-loop-past
invariant-loop-past l = l.copies.items ≡ take l.past-index l.pasts
