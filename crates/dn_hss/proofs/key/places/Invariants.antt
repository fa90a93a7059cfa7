use Rattle.std.proofs.Common.{◌≡◌, length}
use Rattle.dn_hss.proofs.key.places.Given as goal

abbrev pub invariant-loop : goal.invariant-loop
invariant-loop l = length l.places.items ≡ l.counter
