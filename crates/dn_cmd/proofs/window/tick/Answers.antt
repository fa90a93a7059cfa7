use Rattle.std.proofs.Common.{sym, ◌∙◌, subst}
use Rattle.dn_window.specs.Window.{IsAfter}
use Rattle.dn_cmd.proofs.WindowLemmas.{with_ticks_closed}
use Rattle.dn_cmd.proofs.window.tick.Goals as goal

pub returns-then-is_closed-clause-after : goal.returns-then-is_closed-clause-after
returns-then-is_closed-clause-after c = λ past h.
    subst (IsAfter c.args.window.now)
    (sym (with_ticks_closed c.args.window.now.expected c.args.count past (sym h.closed ∙ sym c.if-is_closed.ensures))) h
