use Rattle.std.proofs.Common.{below_more, arith, ◌∙◌}
use Rattle.dn_verify.proofs.HeaderLemmas.{bytes-more}
use Rattle.dn_verify.proofs.header.seals.Goals as goal

pub loop-pair-preserved : goal.loop-pair-preserved
loop-pair-preserved c =
    let tells = c.in_ok-seal.ensures.tells in
    record {
      len = omega (arith, c.in_ok-push.ensures.len);
      tells = below_more _ _ c.loop-pair.invariant.tells tells.0;
      seals = c.in_ok-push.ensures.items ∙ bytes-more c.args.lines.now c.args.first c.loop-pair.pair c.loop-pair.seals.items c.in_ok-seal.seal c.loop-pair.invariant.seals tells.1;
    }
