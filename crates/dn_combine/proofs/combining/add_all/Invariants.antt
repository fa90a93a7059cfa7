use Rattle.std.proofs.Common.{◌≡◌, length, take}
use Rattle.dn_bits.specs.Bits.{sum_bits, xor_bits}
use Rattle.dn_combine.proofs.combining.add_all.Given as goal

abbrev pub invariant-loop-part : goal.invariant-loop-part
invariant-loop-part l =
    (l.sum ≡ xor_bits l.initial.sum (sum_bits (length l.initial.sum) (take l.part-index l.parts))) × (length l.sum ≡ length l.initial.sum)
