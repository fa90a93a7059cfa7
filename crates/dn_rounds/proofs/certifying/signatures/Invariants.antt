use Rattle.dn_rounds.specs.Certifying.{AreSignatures}
use Rattle.dn_rounds.proofs.certifying.signatures.Given as goal

abbrev pub invariant-loop-j : goal.invariant-loop-j
invariant-loop-j l = AreSignatures l.roster l.kept l.b l.j l.all.items
