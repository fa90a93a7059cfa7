use Rattle.std.proofs.Common.{rules, ◌≡◌, subst}
use Rattle.std.specs.Prelude.{IfOk, OnOk}
use Rattle.dn_cert.specs.declared.opened.Opened.{Opened}
use Rattle.dn_cert.specs.declared.opened.Opened.TheVariants as opened
use Rattle.dn_exchange.specs.Listening.{Hears}
use Rattle.dn_state.specs.Delivering.{IsAnswerOn, IsRuled}
use Rattle.dn_state.proofs.AnswerLemmas.{due_of, rules_of}
use Rattle.dn_state.proofs.delivering.answer_of.Goals as goal

pub returns-in-Plain-clause-answers : goal.returns-in-Plain-clause-answers
returns-in-Plain-clause-answers g c =
    let after = c.hear.new.self in
    let said = c.in-Plain.said in
    let is : opened.Plain said ≡ c.args.opened.now = search rules in
    subst (λ (x : Opened). IfOk c.hear.result (λ a. IsAnswerOn x c.args.core.now a after)) is
    (due_of c.hear.result (λ a. Hears c.args.core.now said a after) after c.hear.ensures.answer c.hear.ensures.bodies)

pub returns-in-Plain-clause-rules : goal.returns-in-Plain-clause-rules
returns-in-Plain-clause-rules g c =
    let after = c.hear.new.self in
    let is : opened.Plain c.in-Plain.said ≡ c.args.opened.now = search rules in
    subst (λ (x : Opened). OnOk c.hear.result (IsRuled x c.args.core.now after)) is
    (rules_of c.hear.result c.args.core.now after c.hear.ensures.seat c.hear.ensures.bent c.hear.ensures.disciplined c.hear.ensures.settled)
