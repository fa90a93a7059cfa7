use Rattle.std.proofs.Common.{◌≡◌, ◌++◌, suc, List, true, false, cond}
use Rattle.dn_server.specs.declared.act.Act.{Act}
use Rattle.dn_rounds.specs.Going.{Steps, Stands}
use Rattle.dn_server.specs.Parts.{live}
use Rattle.dn_rounds.specs.Certifying.{steps_left}
use Rattle.dn_rounds.proofs.stepping.go_on.Given as goal

abbrev pub invariant-loop-goes_on : goal.invariant-loop-goes_on
invariant-loop-goes_on g l =
    ((did : List Act) × (l.acts.items ≡ l.fn.acts.items ++ did) × Steps (live l.fn.parts) did (live l.parts))
    × (l.goes_on ≡ true → l.parts.run.is_running ≡ true)
    × (l.goes_on ≡ false → l.parts.run.is_running ≡ true → Stands (live l.parts))

abbrev pub decreases-loop-goes_on : goal.decreases-loop-goes_on
decreases-loop-goes_on g l = cond l.goes_on (suc (steps_left l.parts.run)) 0
