use Rattle.std.proofs.Common.{ap, ◌∙◌}
use Rattle.dn_hash.specs.Digests.{seed_commitment_of}
use Rattle.dn_seal.specs.Dealt.{commitment_dealt_to}
use Rattle.dn_seal.proofs.ListLemmas.{one_more_behind}
use Rattle.dn_seal.proofs.dealt.put_commitments.Goals as goal

pub loop-j-preserved : goal.loop-j-preserved
loop-j-preserved c =
    one_more_behind (commitment_dealt_to c.args.spec.now c.args.i) c.args.out.now.items c.loop-j.out.items _ c.loop-j.j c.seed_commitment.result c.loop-j.invariant c.in_ok-push.ensures.items
    (c.seed_commitment.ensures ∙ ap (seed_commitment_of c.args.i c.loop-j.j) c.pair_seed-seed.ensures)
