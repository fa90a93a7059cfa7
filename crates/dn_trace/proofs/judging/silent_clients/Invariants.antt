use Rattle.std.proofs.Common.{◌≡◌, false, not, ◌&&◌, map, get_or}
use Rattle.dn_bits.specs.Bits.{below}
use Rattle.dn_trace.proofs.judging.silent_clients.Given as goal

abbrev pub invariant-loop-i : goal.invariant-loop-i
invariant-loop-i l = l.flags.items ≡ map (λ x. not l.is_blamed && get_or l.is_challenged x false && not (get_or l.answers x false)) (below l.i)
