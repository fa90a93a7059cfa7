use Rattle.std.proofs.Common.{◌≡◌, length, sym, ap, ◌∙◌, arith}
use Rattle.std.proofs.lemmas.List.{with_items_is}
use Rattle.dn_bits.proofs.WordLemmas.{length-bits_of_words}
use Rattle.dn_bits.proofs.FrontLemmas.{AddsFront, add_view, add_holds}
use Rattle.dn_bits.proofs.bits.Bits.add_word.Goals as goal

pub overflow_mul-place : goal.overflow_mul-place
overflow_mul-place c =
    let n : length c.args.self.now ≡ c.self.inside.count = ap length (sym c.self.view_is) ∙ length-bits_of_words _ _ in
    omega (arith, n, c.requires, c.self.ranges)

pub overflow_sub-self-inside : goal.overflow_sub-self-inside
overflow_sub-self-inside c =
    let n : length c.args.self.now ≡ c.self.inside.count = ap length (sym c.self.view_is) ∙ length-bits_of_words _ _ in
    omega (arith, n, c.requires)

pub front_of-front-requires : goal.front_of-front-requires
front_of-front-requires c =
    let n : length c.args.self.now ≡ c.self.inside.count = ap length (sym c.self.view_is) ∙ length-bits_of_words _ _ in
    omega (arith, n, c.requires)

pub xor_word-requires : goal.xor_word-requires
xor_word-requires c =
    let n : length c.args.self.now ≡ c.self.inside.count = ap length (sym c.self.view_is) ∙ length-bits_of_words _ _ in
    rw c.deref_mut.ensures.value (omega (arith, n, c.requires, c.self.invariant.size))

pub invariant_of-self : goal.invariant_of-self
invariant_of-self c =
    let n : length c.args.self.now ≡ c.self.inside.count = ap length (sym c.self.view_is) ∙ length-bits_of_words _ _ in
    let long : length c.xor_word.new.words ≡ length c.self.inside.words.items = omega (arith, ap length c.deref_mut.ensures.value) in
    let adds : AddsFront c.self.inside.words.items c.xor_word.new.words c.self.inside.count c.args.place c.args.word c.front_of-front.result = record {
      within = omega (arith, n, c.requires);
      masked = c.front_of-front.ensures;
      added = λ k. rw c.deref_mut.ensures.value at (c.xor_word.ensures k);
    } in
    rw (with_items_is c.self.inside.words c.xor_word.new.words (omega arith)) (add_holds _ _ _ _ _ _ adds c.self.invariant long)

pub returns : goal.returns
returns c =
    let n : length c.args.self.now ≡ c.self.inside.count = ap length (sym c.self.view_is) ∙ length-bits_of_words _ _ in
    let adds : AddsFront c.self.inside.words.items c.xor_word.new.words c.self.inside.count c.args.place c.args.word c.front_of-front.result = record {
      within = omega (arith, n, c.requires);
      masked = c.front_of-front.ensures;
      added = λ k. rw c.deref_mut.ensures.value at (c.xor_word.ensures k);
    } in
    rw (with_items_is c.self.inside.words c.xor_word.new.words (omega arith), ← c.self.view_is) (add_view _ _ _ _ _ _ adds)
