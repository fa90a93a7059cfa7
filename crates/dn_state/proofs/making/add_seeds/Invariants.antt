use Rattle.std.proofs.Common.{◌++◌, map}
use Rattle.dn_bits.specs.Bits.{below}
use Rattle.dn_audit.specs.Auditor.{AddsStrings}
use Rattle.dn_state.specs.Beginning.{hashed_dealt}
use Rattle.dn_state.proofs.making.add_seeds.Given as goal

abbrev pub invariant-loop-j : goal.invariant-loop-j
invariant-loop-j l = AddsStrings l.initial.auditor l.auditor (λ x. record x { seeds = x.seeds ++ map (hashed_dealt l.spec l.client.0) (below l.j) })
