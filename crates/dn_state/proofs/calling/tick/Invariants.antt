use Rattle.std.proofs.Common.{◌≡◌, ◌++◌, List}
use Rattle.dn_bits.specs.Bits.{below}
use Rattle.dn_report.specs.declared.outcome.Outcome.{Outcome}
use Rattle.dn_state.specs.declared.calling.Call.TheVariants as calls
use Rattle.dn_state.specs.Doing.{InTurn}
use Rattle.dn_state.specs.Calling.{CallsServer}
use Rattle.dn_state.proofs.calling.tick.Given as goal

abbrev pub invariant-loop-j : goal.invariant-loop-j
invariant-loop-j g l = record {
  roster : l.state.roster ≡ l.initial.state.roster;
  ticks : (lines : List Outcome) × InTurn (λ j. CallsServer calls.Tick record { 0 = j }) (below l.j) l.initial.state l.state lines × (l.outcomes.items ≡ l.initial.outcomes.items ++ lines);
}
