use Rattle.std.proofs.Common.{◌≡◌, ◌++◌, take}
use Rattle.std.specs.Int.{w32, to_be_bytes}
use Rattle.dn_ots.specs.Chain.{leaf_head, chain_head, chain, chain_start}
use Rattle.dn_ots.specs.Ots.{joined, digit, randomizer}
use Rattle.dn_ots.proofs.signatures.append_signature.Given as goal

abbrev pub invariant-chains : goal.invariant-chains
invariant-chains l = (take 20 l.block ≡ leaf_head l.id l.q)
    × (l.out.items ≡ (l.fn.out.items ++ to_be_bytes w32 l.params.code ++ randomizer l.id l.q l.seed)
    ++ joined (λ i. chain (chain_head l.id l.q i) 0 (digit l.params.code l.id l.q (randomizer l.id l.q l.seed) l.msg i) (chain_start l.id l.q l.seed i)) l.i)
