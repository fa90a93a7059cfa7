use Rattle.std.proofs.Common.{◌≡◌, take, false}
use Rattle.std.specs.List.{All}
use Rattle.dn_script.specs.Words.{is_gap}
use Rattle.dn_script.proofs.words.word_length.Given as goal

abbrev pub invariant-loop-i : goal.invariant-loop-i
invariant-loop-i l = All (λ b. is_gap b ≡ false) (take l.i l.line)
