use Rattle.std.proofs.Common.{◌≡◌, take}
use Rattle.std.specs.Prelude.{Contains, ◌⊎◌}
use Rattle.dn_record_types.specs.declared.statement.Statement.TheVariants as kinds
use Rattle.dn_seal.specs.Dealt.{client}
use Rattle.dn_trace.specs.Trial.{Says, round_of}
use Rattle.dn_trace.specs.Tables.{clients_of}
use Rattle.dn_trace.proofs.Tracking.{IsTracked}
use Rattle.dn_trace.proofs.doubles.double_submitters.Given as goal

abbrev pub invariant-loop-said : goal.invariant-loop-said
invariant-loop-said l = IsTracked (λ i x. Says (take l.said-index l.case.given) (client i) (kinds.Submission (round_of l.case) x.prev x.client x.digest)) (clients_of l.case) l.doubles.first.items l.doubles.double.items

abbrev pub invariant-loop-submitted : goal.invariant-loop-submitted
invariant-loop-submitted l = IsTracked (λ i x. Says l.case.given (client i) (kinds.Submission (round_of l.case) x.prev x.client x.digest) ⊎ (Contains (take l.submitted-index l.entered) x × (x.client.0 ≡ i))) (clients_of l.case) l.doubles.first.items l.doubles.double.items
