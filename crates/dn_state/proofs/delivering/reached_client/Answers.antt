use Rattle.std.proofs.Common.{rules, ◌≡◌, refl, subst, inl}
use Rattle.dn_cert.specs.declared.opened.Opened.{Opened}
use Rattle.dn_cert.specs.declared.opened.Opened.TheVariants as opened
use Rattle.dn_state.specs.declared.delivering.Reached.TheVariants as came
use Rattle.dn_state.specs.Delivering.{IsReached}
use Rattle.dn_state.proofs.delivering.reached_client.Goals as goal

pub returns-in-Ok-answer : goal.returns-in-Ok-answer
returns-in-Ok-answer c =
    let envelope = c.in-Ok-answer.envelope in
    let is : opened.Challenge c.in-Challenge.challenge ≡ c.args.opened.now = search rules in
    subst (λ (x : Opened). IsReached c.args.client x c.args.core.now (came.Rebutted envelope) c.answer.new.self) is
    (inl record { envelope = envelope; is = refl; rebutted = c.in-Ok-answer.ensures.rebutted; client = c.in-Ok-answer.ensures.client })
