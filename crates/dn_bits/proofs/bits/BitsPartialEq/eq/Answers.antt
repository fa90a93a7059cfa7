use Rattle.dn_bits.proofs.EqualLemmas.{same_strings}
use Rattle.dn_bits.proofs.bits.BitsPartialEq.eq.Goals as goal

pub returns : goal.returns
returns c = same_strings c.equals.result c.args.self.now c.args.other.now c.equals.ensures
