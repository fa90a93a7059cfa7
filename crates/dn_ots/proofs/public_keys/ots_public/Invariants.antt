use Rattle.std.proofs.Common.{◌≡◌, ◌++◌, take}
use Rattle.std.specs.Int.{w16, to_be_bytes}
use Rattle.sha2.specs.Hashers.{Holds256}
use Rattle.dn_ots.specs.Parameters.{last_step}
use Rattle.dn_ots.specs.Chain.{leaf_head, chain_head, chain, chain_start}
use Rattle.dn_ots.specs.Ots.{joined}
use Rattle.dn_ots.proofs.public_keys.ots_public.Given as goal

abbrev pub invariant-chains : goal.invariant-chains
invariant-chains l = (take 20 l.block ≡ leaf_head l.id l.q)
    × Holds256 l.hasher ((leaf_head l.id l.q ++ to_be_bytes w16 0x8080)
    ++ joined (λ i. chain (chain_head l.id l.q i) 0 (last_step l.params.code) (chain_start l.id l.q l.seed i)) l.i)
