use Rattle.std.proofs.Common.{◌≡◌, None, false, map, get_or}
use Rattle.dn_bits.specs.Bits.{below}
use Rattle.dn_trace.specs.Tables.{server_fault_of}
use Rattle.dn_trace.proofs.judging.server_faults.Given as goal

abbrev pub invariant-loop-j : goal.invariant-loop-j
invariant-loop-j l = l.faults.items ≡ map (λ x. server_fault_of (get_or l.own x None) (get_or l.is_rebutted x false) l.false_output) (below l.j)
