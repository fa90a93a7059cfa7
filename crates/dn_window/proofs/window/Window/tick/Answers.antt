use Rattle.std.proofs.Common.{sym, subst}
use Rattle.dn_window.specs.Window.{IsAfter}
use Rattle.dn_window.proofs.HistoryLemmas.{counted-IsAfter}
use Rattle.dn_window.proofs.window.Window.tick.Goals as goal

pub returns-clause-history : goal.returns-clause-history
returns-clause-history c = λ events h.
    rw (← c.self.view_is) (counted-IsAfter _ events c.if-self.false (subst (λ w. IsAfter w events) (sym c.self.view_is) h))
