use Rattle.std.proofs.Common.{◌≡◌, ◌<◌, length, sym, ap, ◌∙◌, arith}
use Rattle.dn_bits.specs.Bits.{bit}
use Rattle.dn_bits.specs.Words.{bit_of_words}
use Rattle.dn_bits.proofs.WordLemmas.{length-bits_of_words, bit-bits_of_words}
use Rattle.dn_bits.proofs.bits.Bits.get.Goals as goal

pub bit_at-requires : goal.bit_at-requires
bit_at-requires c =
    let n : length c.args.self.now ≡ c.self.inside.count = ap length (sym c.self.view_is) ∙ length-bits_of_words _ _ in
    rw c.deref.ensures.value (omega (arith, n, c.requires, c.self.invariant.size))

pub returns : goal.returns
returns c =
    let n : length c.args.self.now ≡ c.self.inside.count = ap length (sym c.self.view_is) ∙ length-bits_of_words _ _ in
    let within : c.args.k < c.self.inside.count = omega (arith, n, c.requires) in
    c.bit_at.ensures ∙ ap (λ ws. bit_of_words ws c.args.k) c.deref.ensures.value
    ∙ sym (bit-bits_of_words c.self.inside.words.items c.self.inside.count c.args.k within)
    ∙ ap (λ bs. bit bs c.args.k) c.self.view_is
