use Rattle.std.proofs.Common.{◌≡◌, take}
use Rattle.std.specs.Prelude.{Contains}
use Rattle.dn_record_types.specs.declared.body.Listed.{Listed}
use Rattle.dn_trace.specs.Evidence.{Tells}
use Rattle.dn_trace.specs.Tables.{clients_of}
use Rattle.dn_trace.proofs.answers.listed.Given as goal

abbrev pub invariant-loop-row : goal.invariant-loop-row
invariant-loop-row l = Tells l.flags.items (clients_of l.case) (λ i. (r : Listed) × Contains (take l.row-index l.case.body.listed) r × (r.client.0 ≡ i))
