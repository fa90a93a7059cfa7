use Rattle.std.proofs.Common.{◌≡◌, map, take}
use Rattle.dn_bits.specs.Bits.{bit}
use Rattle.dn_bits.specs.XorAll.{xor_all}
use Rattle.dn_trace.proofs.openings.ciphers_at.Given as goal

abbrev pub invariant-loop-x : goal.invariant-loop-x
invariant-loop-x l = l.sum ≡ xor_all (map (λ c. bit c.cipher l.k) (take l.x-index l.shown))
