use Rattle.std.proofs.Common.{◌+◌, []}
use Rattle.std.specs.Prelude.{slice_index_or}
use Rattle.dn_ots.proofs.KeyLemmas.{KeyLane}
use Rattle.dn_ots.proofs.public_keys.ots_public_four.Given as goal

abbrev pub invariant-chains : goal.invariant-chains
invariant-chains l = KeyLane l.id l.seed l.params.code l.q l.i (slice_index_or l.blocks 0 []) l.first
    × KeyLane l.id l.seed l.params.code (l.q + 1) l.i (slice_index_or l.blocks 1 []) l.second
    × KeyLane l.id l.seed l.params.code (l.q + 2) l.i (slice_index_or l.blocks 2 []) l.third
    × KeyLane l.id l.seed l.params.code (l.q + 3) l.i (slice_index_or l.blocks 3 []) l.fourth
