use Rattle.std.proofs.Common.{◌≡◌, ◌<◌, length, sym, ap, ◌∙◌, arith}
use Rattle.std.proofs.lemmas.List.{with_items_is}
use Rattle.dn_bits.proofs.WordLemmas.{length-bits_of_words, flip_view, flip_holds}
use Rattle.dn_bits.proofs.bits.Bits.flip.Goals as goal

pub flip_bit-requires : goal.flip_bit-requires
flip_bit-requires c =
    let n : length c.args.self.now ≡ c.self.inside.count = ap length (sym c.self.view_is) ∙ length-bits_of_words _ _ in
    rw c.deref_mut.ensures.value (omega (arith, n, c.requires, c.self.invariant.size))

pub invariant_of-self : goal.invariant_of-self
invariant_of-self c =
    let n : length c.args.self.now ≡ c.self.inside.count = ap length (sym c.self.view_is) ∙ length-bits_of_words _ _ in
    let within : c.args.k < c.self.inside.count = omega (arith, n, c.requires) in
    let long : length c.flip_bit.new.words ≡ length c.self.inside.words.items = omega (arith, ap length c.deref_mut.ensures.value) in
    rw (with_items_is c.self.inside.words c.flip_bit.new.words (omega arith))
    (flip_holds c.self.inside.words.items c.flip_bit.new.words c.self.inside.count c.args.k within c.self.invariant long
    (λ j. rw c.deref_mut.ensures.value at (c.flip_bit.ensures j)))

pub returns : goal.returns
returns c =
    rw (with_items_is c.self.inside.words c.flip_bit.new.words (omega arith), ← c.self.view_is)
    (flip_view c.self.inside.words.items c.flip_bit.new.words c.self.inside.count c.args.k
    (λ j. rw c.deref_mut.ensures.value at (c.flip_bit.ensures j)))
