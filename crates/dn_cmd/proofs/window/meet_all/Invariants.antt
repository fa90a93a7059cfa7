use Rattle.std.proofs.Common.{drop}
use Rattle.dn_cmd.proofs.WindowLemmas.{HasMet}
use Rattle.dn_cmd.proofs.window.meet_all.Given as goal

abbrev pub invariant-loop-line : goal.invariant-loop-line
invariant-loop-line l =
    HasMet l.clients l.lines (drop l.line-index l.lines) l.window l.marks.items l.initial.text.items l.text.items
