use Rattle.std.proofs.Common.{◌≡◌, ◌*◌, map}
use Rattle.dn_bits.specs.Bits.{below}
use Rattle.dn_bits.specs.Words.{byte_of_words}
use Rattle.dn_bits.proofs.bytes.bytes_of_words.Given as goal

abbrev pub invariant-loop-word : goal.invariant-loop-word
invariant-loop-word l = l.bytes.items ≡ map (byte_of_words l.words) (below (8 * l.word-index))
