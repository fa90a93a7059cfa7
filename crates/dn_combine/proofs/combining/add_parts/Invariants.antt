use Rattle.std.proofs.Common.{◌≡◌, ◌*◌, length, take}
use Rattle.dn_bits.specs.Bits.{sum_bits, xor_bits}
use Rattle.dn_combine.specs.Parts.{pads_of}
use Rattle.dn_combine.proofs.combining.add_parts.Given as goal

abbrev pub invariant-loop-part : goal.invariant-loop-part
invariant-loop-part l =
    let n = length l.initial.sum in
    (l.sum ≡ xor_bits l.initial.sum (sum_bits n (pads_of (take (l.part-index * l._size) l._seeds) l.fn._r.0 n))) × (length l.sum ≡ n)
