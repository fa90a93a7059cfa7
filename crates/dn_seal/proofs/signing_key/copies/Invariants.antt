use Rattle.std.proofs.Common.{◌≡◌, take}
use Rattle.dn_seal.proofs.signing_key.copies.Given as goal

abbrev pub invariant-loop-statement : goal.invariant-loop-statement
invariant-loop-statement l = l.copies.items ≡ take l.statement-index l.statements
