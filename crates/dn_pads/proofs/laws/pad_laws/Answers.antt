use Rattle.dn_pads.proofs.PadLaws.{length-pad, bit-pad}
use Rattle.dn_pads.proofs.laws.pad_laws.Goals as goal

pub returns : goal.returns
returns c = record { length = length-pad; bits = bit-pad }
