use Rattle.std.proofs.Common.{◌+◌, ℕ, ap, below_more, sym, ◌∙◌, arith}
use Rattle.std.specs.Prelude.{◌++◌, ◌∷◌, [], List, map, slice_get}
use Rattle.dn_verify.specs.Header.{bytes_in, bytes_from}
use Rattle.dn_verify.proofs.HeaderLemmas.{bytes-more}
use Rattle.dn_verify.proofs.header.keys.Goals as goal

pub loop-i-preserved : goal.loop-i-preserved
loop-i-preserved c =
    let tells = c.in_ok-key.ensures.tells in
    record {
      len = omega (arith, c.in_ok-push.ensures.len);
      tells = below_more _ _ c.loop-i.invariant.tells tells.0;
      keys = c.in_ok-push.ensures.items ∙ bytes-more c.args.lines.now c.args.first c.loop-i.i c.loop-i.keys.items c.in_ok-key.key c.loop-i.invariant.keys tells.1;
    }
