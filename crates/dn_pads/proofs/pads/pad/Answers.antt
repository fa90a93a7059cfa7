use Rattle.std.proofs.Common.{◌∙◌, ap, length}
use Rattle.dn_bits.specs.Bits.{xor_bits}
use Rattle.dn_pads.specs.Pads.{pad_of}
use Rattle.dn_pads.proofs.PadLemmas.{pad_from_zeros}
use Rattle.dn_pads.proofs.pads.pad.Goals as goal

pub returns : goal.returns
returns c =
    c.add_pad.ensures ∙ ap (λ b. xor_bits b (pad_of c.args.seed.now c.args.r.0 (length b))) c.in_ok-bits.ensures
    ∙ pad_from_zeros c.args.seed.now c.args.r.0 c.args.n
