use Rattle.dn_roster.specs.Dealing.{mask_secret_of}
use Rattle.dn_seal.proofs.ListLemmas.{one_more}
use Rattle.dn_seal.proofs.dealt.mask_secrets.Goals as goal

pub loop-i-preserved : goal.loop-i-preserved
loop-i-preserved c = one_more (mask_secret_of c.args.spec.now.seed) c.loop-i.masks.items _ c.loop-i.i c.mask_secret.result c.loop-i.invariant c.in_ok-push.ensures.items c.mask_secret.ensures
