use Rattle.std.proofs.Common.{◌≡◌, drop}
use Rattle.dn_bits.specs.Bits.{xor}
use Rattle.dn_client.specs.Answering.{shown_sum}
use Rattle.dn_client.proofs.openings.shown_sum.Given as goal

-- the sum so far and that of the rest are the whole sum
abbrev pub invariant-loop-said : goal.invariant-loop-said
invariant-loop-said l = xor l.sum (shown_sum (drop l.said-index l.shown) l.i) ≡ shown_sum l.shown l.i
