use Rattle.std.proofs.Common.{[], inl, inr, refl, sym, ap, subst, ◌∙◌}
use Rattle.std.specs.Prelude.{Contains}
use Rattle.std.proofs.lemmas.Bool.{false≢true}
use Rattle.std.proofs.lemmas.List.{append-nil}
use Rattle.dn_cert.specs.Chain.{bodies}
use Rattle.dn_verify.specs.Kept.{has_mark}
use Rattle.dn_verify.specs.Telling.{TellsRound, IsRoundTold}
use Rattle.dn_verify.specs.Telling.TellsRound.{tells, stays}
use Rattle.dn_verify.proofs.RoundLemmas.{is_other, is_unheld}
use Rattle.dn_verify.proofs.KnownLemmas.{on_weaker}
use Rattle.dn_verify.proofs.round_lines.tell_round.Goals as goal

pub returns-then-has : goal.returns-then-has
returns-then-has c = ([], stays (inl (sym c.has.ensures ∙ c.if-has.true)) refl refl, sym (append-nil c.args.due.now.items))

pub returns-then-not-equals : goal.returns-then-not-equals
returns-then-not-equals c =
    let b = c.args.body.now in
    let at = c.in-Some.ensures.body in
    let other = is_other c.args.chain.now b c.in-Some.held.now c.body.ensures.chain at.0 at.1 (λ same. false≢true (sym c.if-not-equals.true ∙ c.equals.ensures.1 same)) in
    ([], stays (inr other) refl refl, sym (append-nil c.args.due.now.items))

pub returns-in-None : goal.returns-in-None
returns-in-None c =
    let other = is_unheld c.args.chain.now c.args.body.now c.in-None.ensures.body in
    ([], stays (inr other) refl refl, sym (append-nil c.args.due.now.items))

pub returns : goal.returns
returns c =
    let chain = c.args.chain.now in
    let b = c.args.body.now in
    let same = c.equals.ensures.0 c.if-not-equals.false in
    let told = c.in_ok-tell_lines-in-Some.ensures in
    on_weaker _ _ c.note.result
    (λ marks. (
      told.0,
      tells (sym c.has.ensures ∙ c.if-has.false) (subst (Contains (bodies chain)) same c.in-Some.ensures.body.0) (subst (λ x. IsRoundTold chain x told.0) same told.1) marks,
      told.2,
    ))
    c.note.ensures
