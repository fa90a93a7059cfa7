use Rattle.std.proofs.Common.{◌≡◌}
use Rattle.std.specs.List.{filter_map}
use Rattle.dn_bits.specs.Bits.{below}
use Rattle.dn_exchange.specs.Closing.{entry_at}
use Rattle.dn_exchange.proofs.closing.entries.Given as goal

abbrev pub invariant-loop-i : goal.invariant-loop-i
invariant-loop-i l = l.entries.items ≡ filter_map (entry_at l.claims) (below l.i)
