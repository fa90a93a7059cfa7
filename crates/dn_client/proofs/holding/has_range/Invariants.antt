use Rattle.std.proofs.Common.{◌≡◌, ◌≤◌, ◌<◌, ℕ}
use Rattle.dn_bits.specs.Bits.{bit}
use Rattle.dn_client.proofs.holding.has_range.Given as goal

-- the bits so far are the same
abbrev pub invariant-loop-k : goal.invariant-loop-k
invariant-loop-k l = (q : ℕ) → l.first ≤ q → q < l.k → bit l.out q ≡ bit l.plain q
