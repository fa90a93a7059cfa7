use Rattle.std.proofs.Common.{◌≡◌, ◌++◌, take}
use Rattle.std.specs.Int.{w16, to_be_bytes}
use Rattle.sha2.specs.Hashers.{Holds256}
use Rattle.dn_ots.specs.Parameters.{last_step}
use Rattle.dn_ots.specs.Chain.{leaf_head, chain_head}
use Rattle.dn_ots.specs.Ots.{joined, digit, chain_rest, randomizer_in, value_in}
use Rattle.dn_ots.proofs.candidates.candidate_key.Given as goal

abbrev pub invariant-chains : goal.invariant-chains
invariant-chains l = (take 20 l.block ≡ leaf_head l.id l.q)
    × Holds256 l.hasher ((leaf_head l.id l.q ++ to_be_bytes w16 0x8080)
    ++ joined (λ i. chain_rest (last_step l.params.code) (chain_head l.id l.q i) (value_in l.sig i)
    (digit l.params.code l.id l.q (randomizer_in l.sig) l.msg i)) l.i)
