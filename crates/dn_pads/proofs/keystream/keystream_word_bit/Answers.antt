use Rattle.dn_pads.proofs.PadLemmas.{word_bit_is}
use Rattle.dn_pads.proofs.keystream.keystream_word_bit.Goals as goal

pub returns : goal.returns
returns c = word_bit_is c.args.word c.args.j
