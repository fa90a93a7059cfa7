use Rattle.std.proofs.Common.{sym, subst}
use Rattle.std.specs.Prelude.{IfOk}
use Rattle.dn_exchange.specs.Closing.{Ticks, Shuts}
use Rattle.dn_state.specs.declared.calling.Call.{Call}
use Rattle.dn_state.specs.Calling.{IsAnswerTo}
use Rattle.dn_state.proofs.AnswerLemmas.{due_of, rules_of}
use Rattle.dn_state.proofs.calling.answer_of.Goals as goal

pub returns-in-Tick-clause-answers : goal.returns-in-Tick-clause-answers
returns-in-Tick-clause-answers g c =
    let after = c.tick.new.self in
    subst (λ (call : Call). IfOk c.tick.result (λ a. IsAnswerTo call c.args.core.now a after)) (sym c.in-Tick.is)
    (due_of c.tick.result (λ a. Ticks c.args.core.now a after) after c.tick.ensures.answer c.tick.ensures.bodies)

pub returns-in-Tick-clause-rules : goal.returns-in-Tick-clause-rules
returns-in-Tick-clause-rules g c =
    rules_of c.tick.result c.args.core.now c.tick.new.self c.tick.ensures.seat c.tick.ensures.bent c.tick.ensures.disciplined c.tick.ensures.settled

pub returns-in-Close-clause-answers : goal.returns-in-Close-clause-answers
returns-in-Close-clause-answers g c =
    let after = c.close.new.self in
    subst (λ (call : Call). IfOk c.close.result (λ a. IsAnswerTo call c.args.core.now a after)) (sym c.in-Close.is)
    (due_of c.close.result (λ a. Shuts c.args.core.now a after) after c.close.ensures.answer c.close.ensures.bodies)

pub returns-in-Close-clause-rules : goal.returns-in-Close-clause-rules
returns-in-Close-clause-rules g c =
    rules_of c.close.result c.args.core.now c.close.new.self c.close.ensures.seat c.close.ensures.bent c.close.ensures.disciplined c.close.ensures.settled
