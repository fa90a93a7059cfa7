use Rattle.dn_bits.proofs.WordLemmas.{AddedBelow}
use Rattle.dn_bits.proofs.words.xor_words.Given as goal

abbrev pub invariant-loop-i : goal.invariant-loop-i
invariant-loop-i l = AddedBelow l.i l.initial.words l.others l.words
