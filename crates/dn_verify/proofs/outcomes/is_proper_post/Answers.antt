use Rattle.std.proofs.Common.{List, refl, sym, subst, ◌∙◌}
use Rattle.std.specs.Prelude.{Contains}
use Rattle.std.proofs.lemmas.Bool.{false≢true}
use Rattle.dn_wire.specs.declared.ids.Member.{Member}
use Rattle.dn_verify.proofs.PostLemmas.{proper_if}
use Rattle.dn_verify.proofs.outcomes.is_proper_post.Goals as goal

pub returns-then-is_inject : goal.returns-then-is_inject
returns-then-is_inject c = λ report are same. (λ yes injected honest. absurd (injected c.if-is_inject.ensures), λ p. refl)

pub returns-then-is_corrupt : goal.returns-then-is_corrupt
returns-then-is_corrupt c = λ report are same. (
  λ yes injected honest. absurd (honest (subst (λ (ms : List Member). Contains ms c.args.by) (sym same) (c.is_corrupt.ensures.0 c.if-is_corrupt.true))),
  λ p. refl,
)

pub returns : goal.returns
returns c = λ report are same.
    proper_if report c.args.contents.now are c.args.scene c.args.payload c.args.by c.is_own_post.result c.if-is_inject.ensures
    (λ among. false≢true (sym c.if-is_corrupt.false ∙ c.is_corrupt.ensures.1 (subst (λ (ms : List Member). Contains ms c.args.by) same among)))
    (rw c.content_at.ensures at c.is_own_post.ensures)
