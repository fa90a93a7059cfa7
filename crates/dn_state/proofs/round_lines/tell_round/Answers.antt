use Rattle.std.proofs.Common.{[], inr, refl, sym, ap, subst, ◌∙◌}
use Rattle.std.specs.Prelude.{Contains}
use Rattle.std.proofs.lemmas.Bool.{false≢true}
use Rattle.std.proofs.lemmas.List.{append-nil}
use Rattle.dn_cert.specs.Chain.{bodies}
use Rattle.dn_state.specs.Inside.{parts_of}
use Rattle.dn_state.specs.Telling.{TellsRound, IsRoundTold}
use Rattle.dn_state.specs.Telling.TellsRound.{tells, stays}
use Rattle.dn_state.proofs.TellingLemmas.{is_other, is_unheld}
use Rattle.dn_state.proofs.round_lines.tell_round.Goals as goal

pub returns-then-not-equals-clause-tells : goal.returns-then-not-equals-clause-tells
returns-then-not-equals-clause-tells c =
    let b = c.args.body.now in
    let at = c.in-Some.ensures.body in
    let other = is_other c.state.inside.chain b c.in-Some.held.now c.body.ensures.chain at.0 at.1 (λ same. false≢true (sym c.if-not-equals.true ∙ c.equals.ensures.1 same)) in
    ([], subst (λ v. TellsRound v b v []) c.state.view_is (stays (inr other) refl refl), sym (append-nil c.args.outcomes.now.items))

pub returns-in-None-clause-tells : goal.returns-in-None-clause-tells
returns-in-None-clause-tells c =
    let b = c.args.body.now in
    let other = is_unheld c.state.inside.chain b c.in-None.ensures.body in
    ([], subst (λ v. TellsRound v b v []) c.state.view_is (stays (inr other) refl refl), sym (append-nil c.args.outcomes.now.items))

pub returns-clause-tells : goal.returns-clause-tells
returns-clause-tells c =
    let b = c.args.body.now in
    let old = parts_of c.state.inside in
    let new = parts_of record c.state.inside { told = c.insert.new.self } in
    let same = c.equals.ensures.0 c.if-not-equals.false in
    let lines = c.in_ok-tell_lines-in-Some.ensures in (
      lines.0,
      subst (λ v. TellsRound v b new lines.0) c.state.view_is
          (tells (λ was. false≢true (sym c.if-contains.false ∙ c.contains.ensures ∙ was)) (subst (Contains (bodies old.chain)) same c.in-Some.ensures.body.0)
          (subst (λ x. IsRoundTold old.chain x lines.0) same lines.1) (ap (λ ks. record old { told = ks }) c.in_ok-insert.ensures.keys)),
      lines.2,
    )
