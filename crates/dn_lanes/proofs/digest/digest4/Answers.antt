use Rattle.std.proofs.Common.{lit<}
use Rattle.rand_chacha.proofs.LaneLemmas.{below_four}
use Rattle.dn_lanes.proofs.BlockLemmas.{lane_digest}
use Rattle.dn_lanes.proofs.digest.digest4.Goals as goal

pub returns : goal.returns
returns c = below_four _
    (lane_digest c.bytes_of.result _ _ _ c.block_of.result c.bytes_of.ensures (c.compress4-state.ensures 0 (lit< tt) c.block_of.result (c.words4.ensures 0 (lit< tt)))
    (c.initial4.ensures 0 (lit< tt)) c.block_of.ensures.block c.block_of.ensures.long)
    (lane_digest c.bytes_of-2.result _ _ _ c.block_of-2.result c.bytes_of-2.ensures (c.compress4-state.ensures 1 (lit< tt) c.block_of-2.result (c.words4.ensures 1 (lit< tt)))
    (c.initial4.ensures 1 (lit< tt)) c.block_of-2.ensures.block c.block_of-2.ensures.long)
    (lane_digest c.bytes_of-3.result _ _ _ c.block_of-3.result c.bytes_of-3.ensures (c.compress4-state.ensures 2 (lit< tt) c.block_of-3.result (c.words4.ensures 2 (lit< tt)))
    (c.initial4.ensures 2 (lit< tt)) c.block_of-3.ensures.block c.block_of-3.ensures.long)
    (lane_digest c.bytes_of-4.result _ _ _ c.block_of-4.result c.bytes_of-4.ensures (c.compress4-state.ensures 3 (lit< tt) c.block_of-4.result (c.words4.ensures 3 (lit< tt)))
    (c.initial4.ensures 3 (lit< tt)) c.block_of-4.ensures.block c.block_of-4.ensures.long)
