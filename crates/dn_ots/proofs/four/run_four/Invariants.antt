use Rattle.std.proofs.Common.{◌≡◌, ℕ, ◌-◌, ◌<◌, [], take, drop}
use Rattle.std.specs.Prelude.{slice_index_or}
use Rattle.dn_ots.specs.Chain.{chain}
use Rattle.dn_ots.proofs.four.run_four.Given as goal

abbrev pub invariant-steps : goal.invariant-steps
invariant-steps l = (k : ℕ) → k < 4 → (take 22 (slice_index_or l.blocks k []) ≡ take 22 (slice_index_or l.initial.blocks k []))
    × (drop 23 (slice_index_or l.blocks k []) ≡ chain (take 22 (slice_index_or l.initial.blocks k [])) l.from (l.j - l.from) (drop 23 (slice_index_or l.initial.blocks k [])))
