use Rattle.std.proofs.Common.{◌≤◌, length}
use Rattle.dn_puppets.specs.Carried.{AreShort}
use Rattle.dn_puppets.proofs.completing.signatures_in.Given as goal

abbrev pub invariant-loop-j : goal.invariant-loop-j
invariant-loop-j l = AreShort l.signatures.items × (length l.signatures.items ≤ l.j)
