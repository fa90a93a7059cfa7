use Rattle.std.proofs.Common.{◌≡◌, ◌<◌, ℕ, true, false, length, get_or, replicate, Some, None, sym, ap, ◌∙◌, subst, arith}
use Rattle.std.proofs.lemmas.Grind.{common_steps}
use Rattle.dn_seal.specs.Dealt.{client}
use Rattle.dn_trace.specs.Reasons.{IsListed}
use Rattle.dn_trace.specs.Evidence.{Tells}
use Rattle.dn_trace.specs.Tables.{AreAnswers, IsAnswer, clients_of}
use Rattle.dn_trace.proofs.AnswerLemmas.{answers_none, answers_skip, answers_noted, client_number, flag_listed, flag_unlisted}
use Rattle.dn_trace.proofs.Upto.{upto_all}
use Rattle.dn_trace.proofs.answers.heard_answers.Goals as goal
use Rattle.dn_trace.proofs.answers.heard_answers.Goals.{in-Some+in_ok-answer+in-Some-2, in-Some+in_ok-answer+in_default-2, in_default}

pub loop-said-init : goal.loop-said-init
loop-said-init g c =
    let trial = c.args.case.now in
    let clients = λ (n : ℕ). replicate n false in
    rw (
      c.in_ok-no_flags.ensures ∙ ap clients c.servers.ensures,
      c.in_ok-no_flags-2.ensures ∙ ap clients c.clients-n.ensures,
      c.in_ok-no_flags-3.ensures ∙ ap clients c.clients-n.ensures,
      c.in_ok-no_flags-4.ensures ∙ ap clients c.clients-n.ensures,
    )
    (answers_none trial)

pub loop-said-preserved : goal.loop-said-preserved
loop-said-preserved g c =
    let trial = c.args.case.now in
    let x = c.said-item.result in
    let n = c.loop-said.said-index in
    let given = c.given-said-items.ensures.value in
    let old = c.loop-said.answers in
    let lt : n < length trial.given = subst (λ l. n < length l) given c.loop-said-test.true in
    let at : get_or trial.given n x ≡ x = sym (c.said-item.is ∙ ap (λ l. get_or l n x) given) in
    let flags = c.in_ok-listed.listed.items in
    let tells : Tells flags (clients_of trial) (IsListed trial) = c.in_ok-listed.ensures in
    let who : c.signer.result ≡ x.signer = c.signer.ensures.value in
    let skip = answers_skip trial n x lt at old.is_rebutted.items old.rebuts_badly.items old.concedes.items old.answers.items c.loop-said.invariant in
    elim c.match-flagged.branch [
      | in-Some+in_ok-answer+in-Some-2 w ↦
          let i = w.in-Some.i.0 in
          let on : get_or flags i false ≡ true = ap (λ l. get_or l i false) (sym c.deref.ensures.value) ∙ w.in-Some.ensures.1 in
          let by : x.signer ≡ client i = sym who ∙ w.in-Some.ensures.0 in
          let is : IsAnswer trial i x.statement (Some w.in-Some-2.answer) = subst (λ s. IsAnswer trial i s (Some w.in-Some-2.answer)) w.statement.ensures.value
          (rw w.in-Some-2.is at w.in_ok-answer.ensures) in
          rw w.answers-is (answers_noted trial n x lt at old w.note.new.self c.loop-said.invariant i (flag_listed trial flags tells i on) by w.in-Some-2.answer is w.note.ensures)
      | in-Some+in_ok-answer+in_default-2 w ↦
          let i = w.in-Some.i.0 in
          let by : x.signer ≡ client i = sym who ∙ w.in-Some.ensures.0 in
          let none : w.in_ok-answer.field-0 ≡ None = grind (arith, common_steps) in
          let is : IsAnswer trial i x.statement None = subst (λ s. IsAnswer trial i s None) w.statement.ensures.value (rw none at w.in_ok-answer.ensures) in
          rw w.answers-is (skip (λ j listed same. subst (λ (k : ℕ). IsAnswer trial k x.statement None) (client_number i j (sym by ∙ same)) is))
      | in_default w ↦
          rw w.answers-is (skip (λ i listed by.
          absurd (flag_unlisted trial flags tells i c.given-said-items.ensures.fits (ap (λ l. get_or l i false) (sym c.deref.ensures.value) ∙ w.in_default.ensures i (who ∙ by)) listed)))
    ]

pub returns : goal.returns
returns g c =
    let trial = c.args.case.now in
    let whole : c.loop-said.said-index ≡ length trial.given = omega (arith, ap length c.given-said-items.ensures.value) in
    let a = c.loop-said.answers in
    subst (λ t. AreAnswers t a.is_rebutted.items a.rebuts_badly.items a.concedes.items a.answers.items) (upto_all trial c.loop-said.said-index whole) c.loop-said.invariant
