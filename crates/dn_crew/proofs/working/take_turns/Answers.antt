use Rattle.std.proofs.Common.{◌≡◌, subst, arith}
use Rattle.dn_crew.specs.Workers.{IsAt}
use Rattle.dn_crew.proofs.working.take_turns.Goals as goal

pub returns : goal.returns
returns g c = λ first w h.
    let done : c.loop-turn.turn ≡ c.args.t = omega arith in
    subst (λ n. IsAt c.args.lock.now c.args.roster.now c.args.servers.now first w c.args.worker.core n c.loop-turn.worker.pass c.loop-turn.worker.core c.loop-turn.worker.inbox.items) done (c.loop-turn.invariant.at first w h)
