use Rattle.dn_pads.proofs.PadLemmas.{joined_bit}
use Rattle.dn_pads.proofs.keystream.joined.Goals as goal

pub returns : goal.returns
returns c =
    joined_bit c.args.first c.args.second c.from_be_bytes.result
    (rw (c.to_le_bytes-front.ensures, c.to_le_bytes-back.ensures) at c.from_be_bytes.ensures)
