use Rattle.std.proofs.Common.{take}
use Rattle.dn_state.specs.Verdicts.{IsAccused}
use Rattle.dn_state.proofs.judging.accusation.Given as goal

abbrev pub invariant-loop-said : goal.invariant-loop-said
invariant-loop-said l = ¬ IsAccused l.layout l.body l.k (take l.said-index l.heard)
