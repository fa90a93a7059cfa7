use Rattle.std.proofs.Common.{take}
use Rattle.std.specs.Prelude.{◌⊎◌}
use Rattle.dn_trace.specs.Evidence.{Tells}
use Rattle.dn_trace.specs.Tables.{clients_of}
use Rattle.dn_trace.proofs.Differing.{DiffersIn, DiffersFirst}
use Rattle.dn_trace.proofs.challenging.differing.Given as goal

abbrev pub invariant-loop-opening : goal.invariant-loop-opening
invariant-loop-opening l = Tells l.flags.items (clients_of l.case) (λ i. DiffersFirst l.case l.openings l.opening-index i)

abbrev pub invariant-loop-x : goal.invariant-loop-x
invariant-loop-x l = Tells l.flags.items (clients_of l.case) (λ i. DiffersFirst l.case l.openings l.opening-index i ⊎ DiffersIn l.case l.openings (take l.x-index l.x-items) i)
