use Rattle.std.proofs.Common.{arith}
use Rattle.dn_lms.specs.Signature.{public_key}
use Rattle.dn_seal.proofs.ListLemmas.{taken_more}
use Rattle.dn_seal.proofs.dealt.public_keys.Goals as goal

pub loop-key-preserved : goal.loop-key-preserved
loop-key-preserved c =
    taken_more public_key c.args.keys.now c.loop-key.all.items _ c.loop-key.key-index c.key-item.result c.in_ok-public.public c.loop-key.invariant c.in_ok-push.ensures.items c.in_ok-public.ensures c.key-item.is (omega arith)
