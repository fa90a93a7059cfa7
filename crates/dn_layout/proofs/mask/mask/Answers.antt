use Rattle.std.proofs.Common.{arith}
use Rattle.dn_layout.proofs.MaskLemmas.{masked_whole}
use Rattle.dn_layout.proofs.mask.mask.Goals as goal

pub returns : goal.returns
returns c =
    let kept = c.loop-m.invariant in
    masked_whole c.args.key.now c.args.bytes.now c.loop-m.bytes kept.same (λ j lt. kept.done j (omega arith))
