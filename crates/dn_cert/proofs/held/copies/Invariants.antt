use Rattle.std.proofs.Common.{◌≡◌, take}
use Rattle.dn_cert.proofs.held.copies.Given as goal

abbrev pub invariant-loop-each : goal.invariant-loop-each
invariant-loop-each l = l.list.items ≡ take l.each-index l.held
