use Rattle.dn_seal.specs.Dealt.{seed_dealt_to}
use Rattle.dn_seal.proofs.ListLemmas.{one_more_behind}
use Rattle.dn_seal.proofs.dealt.put_seeds.Goals as goal

pub loop-j-preserved : goal.loop-j-preserved
loop-j-preserved c = one_more_behind (seed_dealt_to c.args.spec.now c.args.i) c.args.out.now.items c.loop-j.out.items _ c.loop-j.j c.pair_seed.result c.loop-j.invariant c.in_ok-push.ensures.items c.pair_seed.ensures
