use Rattle.std.proofs.Common.{◌≡◌, ◌++◌, List, take}
use Rattle.dn_report.specs.declared.outcome.Outcome.{Outcome}
use Rattle.dn_state.specs.Putting.{SendsEach}
use Rattle.dn_state.proofs.putting.send_each.Given as goal

abbrev pub invariant-loop-member : goal.invariant-loop-member
invariant-loop-member l =
    (lines : List Outcome) × SendsEach l.from l.payload (take l.member-index l.to) l.initial.flight l.flight lines × (l.outcomes.items ≡ l.initial.outcomes.items ++ lines)
