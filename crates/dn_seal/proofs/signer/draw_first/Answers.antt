use Rattle.std.proofs.Common.{arith}
use Rattle.dn_seal.proofs.DrawLemmas.{one_drawn}
use Rattle.dn_seal.proofs.signer.draw_first.Goals as goal

pub loop-preserved : goal.loop-preserved
loop-preserved c =
    let e = c.draw-drawn.ensures in
    one_drawn c.args.drawer.now c.loop.counter c.loop.pass _ c.draw-drawn.result c.loop.invariant (omega (arith, c.requires.few)) c.requires.alone e.pass e.drawn e.exhausted e.alone
