use Rattle.std.proofs.Common.{◌≡◌, map, length, take}
use Rattle.dn_bits.specs.Bits.{sum_bits, xor_bits}
use Rattle.dn_pads.specs.Pads.{pad_of}
use Rattle.dn_combine.proofs.combining.add_pads.Given as goal

abbrev pub invariant-loop-seed : goal.invariant-loop-seed
invariant-loop-seed l =
    (l.sum ≡ xor_bits l.initial.sum (sum_bits (length l.initial.sum) (map (λ s. pad_of s l.r.0 (length l.initial.sum)) (take l.seed-index l.seeds))))
    × (length l.sum ≡ length l.initial.sum)
