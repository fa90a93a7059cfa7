use Rattle.std.proofs.Common.{ℕ, ◌<◌, get_or}
use Rattle.dn_seal.specs.Said.{SaidView}
use Rattle.dn_trace.specs.Evidence.{SaysWrong}
use Rattle.dn_trace.proofs.showing.shows_wrong.Given as goal

abbrev pub invariant-loop-said : goal.invariant-loop-said
invariant-loop-said l = (k : ℕ) (d : SaidView) → k < l.said-index → SaysWrong l.case l.j.0 (get_or l.case.given k d) → ⊥
