use Rattle.dn_seal.proofs.ListLemmas.{one_more}
use Rattle.dn_seal.specs.Dealt.{seed_dealt_to}
use Rattle.dn_client.proofs.client.seeds_of.Goals as goal

pub loop-j-preserved : goal.loop-j-preserved
loop-j-preserved c = one_more (seed_dealt_to c.args.dealt.now.spec c.args.i.0) c.loop-j.seeds.items _ c.loop-j.j c.pair_seed.result c.loop-j.invariant c.in_ok-push.ensures.items c.pair_seed.ensures
