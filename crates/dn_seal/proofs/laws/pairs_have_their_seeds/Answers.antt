use Rattle.std.proofs.Common.{ap, ◌∙◌, ◌+◌, ◌*◌}
use Rattle.std.specs.Prelude.{slice_get}
use Rattle.dn_roster.specs.Dealing.{mask_secret_of}
use Rattle.dn_seal.specs.Dealt.{seed_dealt_to}
use Rattle.dn_seal.proofs.DealtLemmas.{commitment_of-pair, slice_get-each_pair, slice_get-first}
use Rattle.dn_seal.proofs.laws.pairs_have_their_seeds.Goals as goal

pub returns : goal.returns
returns c =
    let d = c.args.dealt.now in
    let group = d.spec in
    record {
      commitments = commitment_of-pair group d.roster d.dealt.has_roster;
      seeds = λ i j low high. ap (λ l. slice_get l (i * group.servers + j)) d.dealt.has_seeds ∙ slice_get-each_pair (seed_dealt_to group) group.clients group.servers i j low high;
      masks = λ i within. ap (λ l. slice_get l i) d.dealt.has_masks ∙ slice_get-first (mask_secret_of group.seed) group.clients i within;
    }
