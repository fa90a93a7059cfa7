use Rattle.std.proofs.Common.{◌≡◌, ◌++◌, List, take}
use Rattle.dn_report.specs.declared.outcome.Outcome.{Outcome}
use Rattle.dn_state.specs.Doing.{InTurn}
use Rattle.dn_state.specs.Acting.{Acts}
use Rattle.dn_state.proofs.acting.act_each.Given as goal

abbrev pub invariant-loop-each : goal.invariant-loop-each
invariant-loop-each l = record {
  roster : l.state.roster ≡ l.initial.state.roster;
  acts : (lines : List Outcome) × InTurn (Acts l.server l.last) (take l.each-index l.acts) l.initial.state l.state lines × (l.outcomes.items ≡ l.initial.outcomes.items ++ lines);
}
