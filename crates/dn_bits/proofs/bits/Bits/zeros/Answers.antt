use Rattle.dn_bits.proofs.WordLemmas.{zeros_view}
use Rattle.dn_bits.proofs.bits.Bits.zeros.Goals as goal

pub returns : goal.returns
returns c = rw (c.in_ok-vec.ensures.items_if_clones_equal (λ y h. h)) (zeros_view _ c.args.n)
