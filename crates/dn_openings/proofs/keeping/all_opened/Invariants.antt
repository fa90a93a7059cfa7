use Rattle.std.proofs.Common.{ℕ, ◌<◌}
use Rattle.dn_openings.specs.Evidence.{HasOpened}
use Rattle.dn_openings.proofs.keeping.all_opened.Given as goal

abbrev pub invariant-loop-j : goal.invariant-loop-j
invariant-loop-j l = (x : ℕ) → x < l.j → HasOpened l.kept l.place x
