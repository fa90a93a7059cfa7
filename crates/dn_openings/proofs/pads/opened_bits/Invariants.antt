use Rattle.std.proofs.Common.{◌≡◌, false, [], cond, map, take}
use Rattle.std.specs.Prelude.{◌==◌, slice_index_or}
use Rattle.std.specs.List.{list_any}
use Rattle.dn_bits.specs.Bits.{below}
use Rattle.dn_pads.specs.Pads.{keystream_bit}
use Rattle.dn_openings.proofs.pads.opened_bits.Given as goal

abbrev pub invariant-loop-row : goal.invariant-loop-row
invariant-loop-row l =
    l.bits ≡ map (λ i. cond (list_any (λ x. x.client.0 == i) (take l.row-index l.body.listed)) (keystream_bit (slice_index_or l.seeds i []) l.body.r.0 l.k) false) (below l.clients)
