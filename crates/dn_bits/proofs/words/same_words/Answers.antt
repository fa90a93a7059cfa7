use Rattle.std.proofs.Common.{◌<◌, ◌^◌, ap, arith, refl, get_or}
use Rattle.std.proofs.lemmas.Bool.{false≢true}
use Rattle.dn_bits.specs.Words.{bit_of_words}
use Rattle.dn_bits.proofs.EqualLemmas.{same_word, same_at}
use Rattle.dn_bits.proofs.words.same_words.Goals as goal

pub returns-then-words-i : goal.returns-then-words-i
returns-then-words-i c =
    let one : get_or c.args.words.now c.loop-i.i 0 < 2 ^ 64 = omega arith in
    let two : get_or c.args.others.now c.loop-i.i 0 < 2 ^ 64 = omega arith in
    (λ t. absurd (false≢true t), λ bits. absurd (c.if-words-i.true (same_word c.args.words.now c.args.others.now c.loop-i.i one two bits)))

pub returns : goal.returns
returns c =
    let same = same_at c.args.words.now c.args.others.now c.requires (λ j lt. c.loop-i.invariant j (omega arith)) in
    (λ t k. ap (λ ws. bit_of_words ws k) same, λ bits. refl)
