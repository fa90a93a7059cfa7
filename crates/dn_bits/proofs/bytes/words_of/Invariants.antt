use Rattle.dn_bits.proofs.WordByteLemmas.{FilledBelow}
use Rattle.dn_bits.proofs.bytes.words_of.Given as goal

abbrev pub invariant-loop-i : goal.invariant-loop-i
invariant-loop-i l = FilledBelow l.words.items l.bytes l.n l.i
