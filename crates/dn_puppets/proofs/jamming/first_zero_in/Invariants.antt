use Rattle.std.proofs.Common.{◌≡◌, ℕ, ◌<◌, ◌≤◌, true}
use Rattle.dn_bits.specs.Bits.{bit}
use Rattle.dn_puppets.proofs.jamming.first_zero_in.Given as goal

abbrev pub invariant-loop-k : goal.invariant-loop-k
invariant-loop-k l = (q : ℕ) → l.first ≤ q → q < l.k → bit l.bits q ≡ true
