use Rattle.std.proofs.Common.{arith}
use Rattle.std.proofs.lemmas.Bool.Decides.{nat_tests}
use Rattle.dn_window.proofs.HistoryLemmas.{started-IsAfter}
use Rattle.dn_window.proofs.window.Window.start.Goals as goal
use Rattle.dn_window.proofs.window.Window.start.Goals.{then-enough-eq0, else-enough-eq0}

pub returns-clause-history : goal.returns-clause-history
returns-clause-history c =
    started-IsAfter c.args.n c.args.expected _ _ (c.in_ok-submitted.ensures.items_if_clones_equal (λ y h. h))
    (elim c.if-enough-eq0.branch [ then-enough-eq0 w ↦ grind (arith, nat_tests) | else-enough-eq0 w ↦ grind (arith, nat_tests) ])
