use Rattle.std.proofs.Common.{◌≡◌, length}
use Rattle.dn_puppets.proofs.luring.true_bits.Given as goal

abbrev pub invariant-loop-row : goal.invariant-loop-row
invariant-loop-row l = length l.bits ≡ length l.roster.clients
