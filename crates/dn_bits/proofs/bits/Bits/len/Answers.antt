use Rattle.std.proofs.Common.{sym, ap, ◌∙◌, length}
use Rattle.dn_bits.proofs.WordLemmas.{length-bits_of_words}
use Rattle.dn_bits.proofs.bits.Bits.len.Goals as goal

pub returns : goal.returns
returns c = sym (ap length (sym c.self.view_is) ∙ length-bits_of_words _ _)
