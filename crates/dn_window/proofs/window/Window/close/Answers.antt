use Rattle.std.proofs.Common.{sym, subst}
use Rattle.dn_window.specs.Window.{IsAfter}
use Rattle.dn_window.proofs.HistoryLemmas.{closed-IsAfter}
use Rattle.dn_window.proofs.window.Window.close.Goals as goal

pub returns-clause-history : goal.returns-clause-history
returns-clause-history c = λ events h. closed-IsAfter _ events (subst (λ w. IsAfter w events) (sym c.self.view_is) h)
