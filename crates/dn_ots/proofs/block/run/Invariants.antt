use Rattle.std.proofs.Common.{◌≡◌, ◌-◌, take, drop}
use Rattle.dn_ots.specs.Chain.{chain}
use Rattle.dn_ots.proofs.block.run.Given as goal

abbrev pub invariant-steps : goal.invariant-steps
invariant-steps l = (take 22 l.block ≡ take 22 l.initial.block)
    × (drop 23 l.block ≡ chain (take 22 l.initial.block) l.from (l.j - l.from) (drop 23 l.initial.block))
