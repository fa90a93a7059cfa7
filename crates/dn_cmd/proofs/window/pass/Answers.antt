use Rattle.dn_cmd.proofs.PassLemmas.{passed_none, passed_more}
use Rattle.dn_cmd.proofs.window.pass.Goals as goal

pub loop-tick-init : goal.loop-tick-init
loop-tick-init c = passed_none c.args.window.now

pub loop-tick-preserved : goal.loop-tick-preserved
loop-tick-preserved c =
    passed_more c.args.window.now c.loop-tick.window c.tick.new.self c.loop-tick.tick c.loop-tick.invariant c.tick.ensures.history c.tick.ensures.clients c.tick.ensures.expected
