use Rattle.std.proofs.Common.{◌≡◌, ◌++◌, [], refl, sym, ap, ◌∙◌, inl, inr, append-nil, subst}
use Rattle.dn_cert.specs.Opening.{IsUnopenedPayload}
use Rattle.dn_wire.specs.declared.ids.ServerId.{ServerId}
use Rattle.dn_crew.specs.Live.{acts_of, letters_of, server_of}
use Rattle.dn_crew.proofs.delivering.hand.Goals as goal

pub returns-in_ok-put_answer-in-Ok-clause-handed : goal.returns-in_ok-put_answer-in-Ok-clause-handed
returns-in_ok-put_answer-in-Ok-clause-handed g c =
    let o = c.in-Ok.ensures.opened in
    let from : c.number-from.result ≡ server_of c.args.core.now = ap (λ n. let s : ServerId = record { 0 = n } in s) c.number-from.ensures in (
      acts_of c.in_ok-answer-in-Ok.answer,
      inl (o.0, c.in-Ok.opened, c.in_ok-answer-in-Ok.answer, o.1, sym c.get.ensures ∙ o.2, o.3, c.in_ok-answer-in-Ok.ensures.answers, refl),
      c.in_ok-put_answer-in-Ok.ensures ∙ ap (λ s. c.args.made.now.items ++ letters_of c.args.servers.now s (acts_of c.in_ok-answer-in-Ok.answer)) from,
    )

pub returns-in_ok-pass_over-in-Err-clause-handed : goal.returns-in_ok-pass_over-in-Err-clause-handed
returns-in_ok-pass_over-in-Err-clause-handed g c = (
  [],
  inr (c.in-Err.fault, c.in_ok-pass_over-in-Err.ensures, subst (λ b. IsUnopenedPayload c.args.roster.now b c.in-Err.fault) c.get.ensures c.in-Err.ensures.unopened, refl, refl),
  sym (append-nil c.args.made.now.items),
)
