use Rattle.std.proofs.Common.{◌≡◌, drop}
use Rattle.dn_script.specs.Words.{words_in}
use Rattle.dn_script.proofs.words.without_gap.Given as goal

abbrev pub invariant-loop-i : goal.invariant-loop-i
invariant-loop-i l = words_in (drop l.i l.line) ≡ words_in l.line
