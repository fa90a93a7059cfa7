use Rattle.std.proofs.Common.{ℕ, ◌∙◌, ap, refl}
use Rattle.rand_chacha.specs.ChaCha.{ChaCha, next_word}
use Rattle.dn_pads.specs.Pads.{bit_of_word}
use Rattle.dn_pads.proofs.PadLemmas.{keystream_is}
use Rattle.dn_pads.proofs.pads.pad_bit.Goals as goal

pub returns : goal.returns
returns c =
    c.keystream_word_bit.ensures
    ∙ ap (λ (p : ℕ × ChaCha). bit_of_word p.0 c.args.k) c.next_word.ensures
    ∙ ap (λ (g : ChaCha). bit_of_word (next_word 10 g).0 c.args.k) c.keystream.ensures
    ∙ keystream_is c.args.seed.now c.args.r.0 c.args.k _ refl
