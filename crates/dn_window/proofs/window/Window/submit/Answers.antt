use Rattle.std.proofs.Common.{◌∙◌}
use Rattle.dn_window.proofs.HistoryLemmas.{told-IsAfter, submission-IsAfter}
use Rattle.dn_window.proofs.window.Window.submit.Goals as goal

pub returns-clause-one_list : goal.returns-clause-one_list
returns-clause-one_list c = λ events h. c.enter.ensures.told ∙ told-IsAfter _ events _ c.requires h

pub returns-clause-history : goal.returns-clause-history
returns-clause-history c = λ events h. rw c.enter.ensures.after (submission-IsAfter _ events _ c.requires h)
