use Rattle.std.proofs.Common.{◌≡◌, ◌≤◌, false, length, sym, ap, ◌∙◌, arith}
use Rattle.std.proofs.lemmas.Bool.{le-ltb}
use Rattle.std.proofs.lemmas.List.{get_or_past}
use Rattle.dn_bits.specs.Bits.{bit}
use Rattle.dn_bits.specs.Words.{bit_of_words}
use Rattle.dn_bits.proofs.WordLemmas.{length-bits_of_words, bit-bits_of_words}
use Rattle.dn_bits.proofs.bits.Bits.get_or_zero.Goals as goal

pub returns-then-k-self : goal.returns-then-k-self
returns-then-k-self c =
    c.bit_at.ensures ∙ ap (λ ws. bit_of_words ws c.args.k) c.deref.ensures.value
    ∙ sym (bit-bits_of_words c.self.inside.words.items c.self.inside.count c.args.k c.if-k-self.true)
    ∙ ap (λ bs. bit bs c.args.k) c.self.view_is

pub returns-else-k-self : goal.returns-else-k-self
returns-else-k-self c =
    let n : length c.args.self.now ≡ c.self.inside.count = ap length (sym c.self.view_is) ∙ length-bits_of_words _ _ in
    let past : length c.args.self.now ≤ c.args.k = omega (arith, n, c.if-k-self.false) in
    le-ltb c.args.k c.self.inside.count c.if-k-self.false ∙ sym (get_or_past c.args.self.now c.args.k false past)
