use Rattle.std.proofs.Common.{◌≡◌, ◌∷◌, List, [], Some, inl, inr, refl, sym, ap, subst, ◌∙◌}
use Rattle.std.specs.Prelude.{Contains}
use Rattle.std.proofs.lemmas.Bool.{false≢true}
use Rattle.std.proofs.lemmas.List.{append-nil}
use Rattle.dn_wire.specs.declared.ids.Member.{Member}
use Rattle.dn_report.specs.declared.outcome.Outcome.TheVariants as outcomes
use Rattle.dn_verify.specs.Judged.{word_lines}
use Rattle.dn_verify.specs.Rules.{IsHonest}
use Rattle.dn_verify.proofs.ContentLemmas.{closed_is}
use Rattle.dn_verify.proofs.events.expect_unopened.Goals as goal

pub returns-then-is_corrupt : goal.returns-then-is_corrupt
returns-then-is_corrupt c = λ report are corrupt. (
  [],
  inr (subst (λ (ms : List Member). Contains ms c.args.message.to) (sym corrupt) (c.is_corrupt.ensures.0 c.if-is_corrupt.true), refl),
  sym (append-nil c.args.due.now.items),
)

pub returns-in_ok-push_back-in-Some : goal.returns-in_ok-push_back-in-Some
returns-in_ok-push_back-in-Some c = λ report are corrupt.
    let honest : IsHonest report.corrupt c.args.message.to =
    λ among. false≢true (sym c.if-is_corrupt.false ∙ c.is_corrupt.ensures.1 (subst (λ (ms : List Member). Contains ms c.args.message.to) corrupt among)) in
    let word = rw c.content_at.ensures at c.in-Some.ensures in (
      outcomes.Unopened c.in-Some.word ∷ [],
      inl (honest, sym (closed_is report c.args.contents.now c.args.message.payload are ∙ ap word_lines (sym word))),
      c.in_ok-push_back-in-Some.ensures.items,
    )

pub returns-in-None : goal.returns-in-None
returns-in-None c = λ report are corrupt.
    let honest : IsHonest report.corrupt c.args.message.to =
    λ among. false≢true (sym c.if-is_corrupt.false ∙ c.is_corrupt.ensures.1 (subst (λ (ms : List Member). Contains ms c.args.message.to) corrupt among)) in
    let none = rw c.content_at.ensures at c.in-None.ensures in
    ([], inl (honest, sym (closed_is report c.args.contents.now c.args.message.payload are ∙ ap word_lines (sym none))), sym (append-nil c.args.due.now.items))
