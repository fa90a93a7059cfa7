use Rattle.std.proofs.Common.{◌≡◌, ◌+◌, ◌/◌, length, sym, ap, ◌∙◌, subst, arith, ℕ, List}
use Rattle.std.proofs.lemmas.List.{with_items_is}
use Rattle.dn_bits.specs.Bits.{xor_bits}
use Rattle.dn_bits.specs.Words.{bits_of_words, Holds}
use Rattle.dn_bits.proofs.WordLemmas.{length-bits_of_words, xor_view, xor_holds}
use Rattle.dn_bits.proofs.bits.Bits.xor_into.Goals as goal

counts : (a b : List ℕ) (m n : ℕ) → length (bits_of_words a m) ≡ length (bits_of_words b n) → m ≡ n
counts a b m n h = sym (length-bits_of_words a m) ∙ h ∙ length-bits_of_words b n

pub xor_words-requires : goal.xor_words-requires
xor_words-requires c =
    let e : c.self.inside.count ≡ c.other.inside.count = counts c.self.inside.words.items c.other.inside.words.items _ _ (ap length c.self.view_is ∙ c.requires ∙ ap length (sym c.other.view_is)) in
    rw (c.deref_mut.ensures.value, c.deref.ensures.value) (c.self.invariant.size ∙ ap (λ n. (n + 63) / 64) e ∙ sym c.other.invariant.size)

pub invariant_of-self : goal.invariant_of-self
invariant_of-self c =
    let e : c.self.inside.count ≡ c.other.inside.count = counts c.self.inside.words.items c.other.inside.words.items _ _ (ap length c.self.view_is ∙ c.requires ∙ ap length (sym c.other.view_is)) in
    let long : length c.xor_words.new.words ≡ length c.self.inside.words.items = omega (arith, ap length c.deref_mut.ensures.value) in
    rw (with_items_is c.self.inside.words c.xor_words.new.words (omega arith))
    (xor_holds c.xor_words.new.words c.self.inside.words.items c.other.inside.words.items c.self.inside.count
    (λ i. rw (c.deref_mut.ensures.value, c.deref.ensures.value) at (c.xor_words.ensures i)) long c.self.invariant
    (subst (Holds c.other.inside.words.items) (sym e) c.other.invariant))

pub returns : goal.returns
returns c =
    let e : c.self.inside.count ≡ c.other.inside.count = counts c.self.inside.words.items c.other.inside.words.items _ _ (ap length c.self.view_is ∙ c.requires ∙ ap length (sym c.other.view_is)) in
    rw (with_items_is c.self.inside.words c.xor_words.new.words (omega arith), ← c.self.view_is, ← c.other.view_is)
    (xor_view c.xor_words.new.words c.self.inside.words.items c.other.inside.words.items c.self.inside.count
    (λ i. rw (c.deref_mut.ensures.value, c.deref.ensures.value) at (c.xor_words.ensures i))
    ∙ ap (λ n. xor_bits (bits_of_words c.self.inside.words.items c.self.inside.count) (bits_of_words c.other.inside.words.items n)) e)
