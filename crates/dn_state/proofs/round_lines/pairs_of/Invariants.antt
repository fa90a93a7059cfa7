use Rattle.std.proofs.Common.{◌≡◌, map, take}
use Rattle.dn_state.specs.Telling.{pair_of}
use Rattle.dn_state.proofs.round_lines.pairs_of.Given as goal

abbrev pub invariant-loop-listed : goal.invariant-loop-listed
invariant-loop-listed l = l.pairs.items ≡ map pair_of (take l.listed-index l.listed-items)
