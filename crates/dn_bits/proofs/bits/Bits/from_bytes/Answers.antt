use Rattle.dn_bits.proofs.WordByteLemmas.{first_view}
use Rattle.dn_bits.proofs.bits.Bits.from_bytes.Goals as goal

pub returns-clause-bits : goal.returns-clause-bits
returns-clause-bits c = first_view c.in_ok-words_of.field-0.items c.args.bytes.now c.args.n c.in_ok-words_of.ensures
