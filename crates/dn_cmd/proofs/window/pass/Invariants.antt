use Rattle.dn_cmd.proofs.PassLemmas.{HasPassed}
use Rattle.dn_cmd.proofs.window.pass.Given as goal

abbrev pub invariant-loop-tick : goal.invariant-loop-tick
invariant-loop-tick l = HasPassed l.initial.window l.window l.tick
