use Rattle.std.proofs.Common.{◌≡◌, map, take}
use Rattle.dn_cert.specs.Evidence.{shown_bit}
use Rattle.dn_bits.specs.XorAll.{xor_all}
use Rattle.dn_trace.proofs.openings.pads_of_rows.Given as goal

abbrev pub invariant-loop-row : goal.invariant-loop-row
invariant-loop-row l = l.sum ≡ xor_all (map (λ r. shown_bit l.pad r.client) (take l.row-index l.rows))
