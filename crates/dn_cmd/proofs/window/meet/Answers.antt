use Rattle.std.proofs.Common.{sym, subst}
use Rattle.dn_cmd.specs.Window.{IsAt, with_line}
use Rattle.dn_cmd.proofs.WindowLemmas.{at_ticks, at_close}
use Rattle.dn_cmd.proofs.window.meet.Goals as goal

pub returns-in-Tick-clause-at : goal.returns-in-Tick-clause-at
returns-in-Tick-clause-at c = λ n past at.
    subst (λ line. IsAt n c.tick.new.window c.args.marks.now (with_line n line past)) (sym c.in-Tick.is)
    (at_ticks n c.args.window.now c.tick.new.window c.args.marks.now past at c.tick.ensures.clients c.tick.ensures.expected
    c.in-Tick.count (c.tick.ensures.after past at.after))

pub returns-in-Close-clause-at : goal.returns-in-Close-clause-at
returns-in-Close-clause-at c = λ n past at.
    subst (λ line. IsAt n c.close.new.window c.args.marks.now (with_line n line past)) (sym c.in-Close.is)
    (at_close n c.args.window.now c.close.new.window c.args.marks.now past at c.close.ensures.clients c.close.ensures.expected
    (c.close.ensures.after past at.after))
