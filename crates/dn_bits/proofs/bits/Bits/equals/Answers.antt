use Rattle.std.proofs.Common.{◌+◌, ◌/◌, ap, sym, ◌∙◌}
use Rattle.std.proofs.lemmas.Bool.{eqb-true}
use Rattle.dn_bits.proofs.EqualLemmas.{same_count, same_everywhere, same_view}
use Rattle.dn_bits.proofs.bits.Bits.equals.Goals as goal

pub same_words-requires : goal.same_words-requires
same_words-requires c =
    rw (c.deref.ensures.value, c.deref-then-self-other.ensures.value)
    (c.self.invariant.size ∙ ap (λ k. (k + 63) / 64) c.if-self-other.true ∙ sym c.other.invariant.size)

pub returns-then-self-other : goal.returns-then-self-other
returns-then-self-other c =
    let a = c.self.inside.words.items in
    let b = c.other.inside.words.items in
    let h = rw (c.deref.ensures.value, c.deref-then-self-other.ensures.value) at c.same_words.ensures in (
      λ t. sym c.self.view_is ∙ same_view a b c.self.inside.count c.other.inside.count c.if-self-other.true (h.0 t) ∙ c.other.view_is,
      λ e. h.1 (same_everywhere a b c.self.inside.count c.other.inside.count c.self.invariant c.other.invariant (c.self.view_is ∙ e ∙ sym c.other.view_is)),
    )

pub returns-else-self-other : goal.returns-else-self-other
returns-else-self-other c = (
  λ t. absurd (c.if-self-other.false (eqb-true _ _ t)),
  λ e. absurd (c.if-self-other.false (same_count c.self.inside.words.items c.other.inside.words.items c.self.inside.count c.other.inside.count
      (c.self.view_is ∙ e ∙ sym c.other.view_is))),
)
