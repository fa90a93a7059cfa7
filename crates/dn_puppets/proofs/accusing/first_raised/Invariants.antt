use Rattle.std.proofs.Common.{ℕ, ◌<◌, ◌≤◌}
use Rattle.dn_client.specs.Accusing.{DiffersAt}
use Rattle.dn_puppets.proofs.accusing.first_raised.Given as goal

-- no place so far differs
abbrev pub invariant-loop-k : goal.invariant-loop-k
invariant-loop-k l = (q : ℕ) → l.first ≤ q → q < l.k → ¬ DiffersAt l.plain l.out q
