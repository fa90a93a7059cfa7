use Rattle.dn_trace.specs.Tables.{AreAnswers}
use Rattle.dn_trace.proofs.Upto.{upto}
use Rattle.dn_trace.proofs.answers.heard_answers.Given as goal

abbrev pub invariant-loop-said : goal.invariant-loop-said
invariant-loop-said g l = AreAnswers (upto l.case l.said-index) l.answers.is_rebutted.items l.answers.rebuts_badly.items l.answers.concedes.items l.answers.answers.items
