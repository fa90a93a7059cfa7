use Rattle.std.proofs.Common.{◌≡◌, map, take}
use Rattle.dn_cert.specs.Evidence.{shown_bit}
use Rattle.dn_bits.specs.XorAll.{xor_all}
use Rattle.dn_trace.proofs.openings.pads_for.Given as goal

abbrev pub invariant-loop-opening : goal.invariant-loop-opening
invariant-loop-opening l = l.sum ≡ xor_all (map (λ o. shown_bit o.pad.now l.i) (take l.opening-index l.openings))
