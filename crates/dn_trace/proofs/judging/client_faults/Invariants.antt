use Rattle.std.proofs.Common.{◌≡◌, false, map, get_or}
use Rattle.dn_bits.specs.Bits.{below}
use Rattle.dn_trace.specs.Tables.{client_fault_of}
use Rattle.dn_trace.proofs.judging.client_faults.Given as goal

abbrev pub invariant-loop-i : goal.invariant-loop-i
invariant-loop-i l = l.faults.items ≡ map (λ x. client_fault_of (get_or l.is_double x false) (get_or l.is_challenged x false) (get_or l.rebuts_badly x false) (get_or l.concedes x false)) (below l.i)
