use Rattle.dn_bits.proofs.FrontLemmas.{added_word}
use Rattle.dn_bits.proofs.words.xor_word.Goals as goal

pub returns : goal.returns
returns c = λ k. added_word c.args.words.now c.args.i c.args.word k c.requires
