use Rattle.std.proofs.Common.{◌≡◌, map, take}
use Rattle.dn_bits.specs.Bits.{xor_bits, sum_bits}
use Rattle.dn_cmd.specs.Round.{pair_pad}
use Rattle.dn_cmd.proofs.round.add_server_pads.Given as goal

abbrev pub invariant-loop-client : goal.invariant-loop-client
invariant-loop-client l =
    l.bits ≡ xor_bits l.initial.bits (sum_bits l.script.bits (map (λ i. pair_pad l.script i l.server) (take l.client-index l.counted)))
