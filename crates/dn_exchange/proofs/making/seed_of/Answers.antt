use Rattle.std.proofs.Common.{rules, ◌∙◌, ◌+◌, ◌*◌}
use Rattle.std.proofs.lemmas.Option.{slice_get_within, get_or_from_slice_get}
use Rattle.dn_exchange.proofs.making.seed_of.Goals as goal

pub index-requires : goal.index-requires
index-requires c =
    let d = c.args.dealt.now in
    let within = slice_get_within d.seeds.items (c.args.i * d.spec.servers + c.args.j) _ (c.pairs_have_their_seeds.ensures.seeds c.args.i c.args.j c.requires.client c.requires.server) in
    search rules

pub returns : goal.returns
returns c =
    let d = c.args.dealt.now in
    c.index.ensures ∙ get_or_from_slice_get d.seeds.items (c.args.i * d.spec.servers + c.args.j) _ c.index.result.now
    (c.pairs_have_their_seeds.ensures.seeds c.args.i c.args.j c.requires.client c.requires.server)
