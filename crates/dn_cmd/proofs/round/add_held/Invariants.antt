use Rattle.std.proofs.Common.{◌≡◌, ◌%◌, map, take}
use Rattle.std.specs.Prelude.{filter, ◌==◌}
use Rattle.dn_bits.specs.Bits.{xor_bits, sum_bits}
use Rattle.dn_cmd.specs.Round.{cipher}
use Rattle.dn_cmd.proofs.round.add_held.Given as goal

abbrev pub invariant-loop-place : goal.invariant-loop-place
invariant-loop-place l =
    l.bits ≡ xor_bits l.initial.bits
    (sum_bits l.script.bits (map (cipher l.script) (filter (λ i. i % l.script.servers == l.server) (take l.place l.counted))))
