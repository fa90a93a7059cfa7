use Rattle.dn_bits.proofs.WordLemmas.{flip_word}
use Rattle.dn_bits.proofs.words.flip_bit.Goals as goal

pub returns : goal.returns
returns c = λ j. flip_word c.args.words.now c.args.k j c.requires
